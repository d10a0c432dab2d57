-- One spoke's level: an object and what it becomes are a pair, and only one is.
use Rattle.std.proofs.Common.{◌≡◌, ap, sym, subst, ◌∙◌}
use Rattle.hub_cells.specs.Side.{Side, spoke, hub, other}
use Rattle.hub_cells.specs.Level.{Level}
use Rattle.hub_cells.specs.Fit.{Fit, IsFitted}
use Rattle.keep_laws.specs.Marked.{Marked, crossed}
use Rattle.keep_laws.specs.Whole.{Held, Ready, IsWholeOnSide, IsPair, marks_of, object_of, other_object}
use Rattle.keep_laws.specs.Settle.{IsAllowed, settled, converted}
use Rattle.keep_laws.proofs.Back.{spoke_of, hub_of}
use Rattle.keep_laws.proofs.Dead.{good_settled, back_settled, converted_whole}

pub ready_of : (f : Fit) → IsFitted f → Ready f.level
ready_of f h = record { fits = h.fits; spoke_names = h.no_name_twice spoke; hub_names = h.no_name_twice hub }

-- a whole object has no dead entries to lose on its way
pub whole_over : (d : Side) (l : Level) (x : Held) → IsWholeOnSide d l x → converted d l x ≡ other_object d l x
whole_over d l x w = ap (λ (m : Marked l). object_of (other d) l (crossed d l m)) (good_settled d l (marks_of d l x) w.good)

-- from the hub
pub hub_pair : (l : Level) (h : Held) → Ready l → IsWholeOnSide hub l h → IsPair l (converted hub l h) h
hub_pair l h r w = subst (λ (x : Held). IsPair l x h) (sym (whole_over hub l h w)) (spoke_of l h r w).holds

-- to the hub
pub spoke_pair : (l : Level) (x : Held) → Ready l → IsAllowed spoke l (marks_of spoke l x) → IsPair l (settled spoke l x) (converted spoke l x)
spoke_pair l x r a =
    subst (λ (y : Held). IsPair l y (converted spoke l x)) (back_settled spoke l x r a) (hub_pair l (converted spoke l x) r (converted_whole spoke l x r a))

pub one_spoke : (l : Level) (x y h : Held) → Ready l → IsWholeOnSide hub l h → IsPair l x h → IsPair l y h → x ≡ y
one_spoke l x y h r w p q = (spoke_of l h r w).only x p ∙ sym ((spoke_of l h r w).only y q)

pub one_hub : (l : Level) (x g h : Held) → Ready l → IsWholeOnSide spoke l x → IsPair l x g → IsPair l x h → g ≡ h
one_hub l x g h r w p q = (hub_of l x r w).only g p ∙ sym ((hub_of l x r w).only h q)
