use Rattle.std.proofs.Common.{◌≡◌, ◌∷◌, ◌++◌, List, map, ap, ◌∙◌}
use Rattle.std.proofs.lemmas.Result.{err_from_is_err_and}
use Rattle.std.specs.Vec.Iter.{into_iter_items}
use Rattle.kj_value.specs.Json.{text}
use Rattle.kj_value.specs.Seen.{json}
use Rattle.kj_value.specs.declared.value.JVal.{JVal}
use Rattle.kept_entries.proofs.Refused.{no_path}
use Rattle.kept_entries.proofs.reading.read_path.Goals as goal

pub returns-in_err-name_of-clause-err : goal.returns-in_err-name_of-clause-err
returns-in_err-name_of-clause-err c =
    let p = err_from_is_err_and c.from_residual.result c.from_residual.ensures.1 in
    let l = c.loop-item in
    let left = into_iter_items c.next.new.self in
    let step : into_iter_items l.item-iterator ≡ c.in-Some.item ∷ left = c.in-Some.ensures.steps.0 in
    let all = l.invariant ∙ ap (λ (vs : List JVal). map text l.path ++ map json vs) step in
    rw (p.1, p.2) (no_path l.path (json c.in-Some.item) (map json left) c.args.items _ all c.in_err-name_of.ensures.err)
