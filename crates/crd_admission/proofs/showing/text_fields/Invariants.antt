use Rattle.std.proofs.Common.{◌≡◌, [], map}
use Rattle.std.specs.Vec.Iter.{into_iter_items}
use Rattle.kj_value.specs.Texts.{text_pair}
use Rattle.crd_admission.proofs.Notes.{put_all}
use Rattle.crd_admission.proofs.showing.text_fields.Given as goal

-- what is left makes the whole
abbrev pub invariant-loop-text : goal.invariant-loop-text
invariant-loop-text l = put_all l.fields (map text_pair (into_iter_items l.text-iterator)) ≡ put_all [] l.fn.texts
