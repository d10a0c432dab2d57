-- The laws of bodies, for a level that stands for two schemas.
use Rattle.std.proofs.Common.{[]}
use Rattle.kj_value.specs.Json.{members_of}
use Rattle.kj_value.specs.Fields.{Pairs}
use Rattle.kj_value.specs.Sound.{AreRising}
use Rattle.hub_cells.specs.Side.{Side, spoke, hub, other}
use Rattle.hub_cells.specs.Fit.{Fit, shape_on, IsFitted}
use Rattle.keep_laws.specs.Known.{IsKnown}
use Rattle.keep_laws.specs.Settle.{IsAllowed, AreSet, settled, converted}
use Rattle.keep_laws.specs.Whole.{Held, Ready, IsWholeOnSide, marks_of}
use Rattle.keep_laws.proofs.Dead.{settled_whole, converted_whole}
use Rattle.keep_laws.proofs.Canonical.{rise_from}
use Rattle.keep_laws.proofs.InWords.{alive_whole}
use Rattle.keep_laws.specs.FittedBody.{IsBodyOf, HasRoom, IsWholeObject}
use Rattle.keep_laws.proofs.FittedLevels.{level_speaks, level_holds}
use Rattle.keep_laws.proofs.Settled.{whole_known, whole_allowed, whole_settled}

pub ready : (f : Fit) → IsFitted f → Ready f.level
ready f g = record { fits = g.fits; spoke_names = g.no_name_twice spoke; hub_names = g.no_name_twice hub }

pub body_known : (d : Side) (f : Fit) (x : Pairs) → IsFitted f → AreRising (members_of x) → IsBodyOf d f x → IsKnown d f.level x
body_known d f x g h b = (level_speaks d f.depth (shape_on d f) f.level x [] (g.stands d) h b).0

pub body_allowed : (d : Side) (f : Fit) (x : Held) → IsFitted f → AreRising (members_of x.fields) → IsBodyOf d f x.fields → IsAllowed d f.level (marks_of d f.level x)
body_allowed d f x g h b = (level_speaks d f.depth (shape_on d f) f.level x.fields x.entries (g.stands d) h b).1.0

pub body_set : (d : Side) (f : Fit) (x : Held) → IsFitted f → AreRising (members_of x.fields) → IsBodyOf d f x.fields → AreSet d f.level (marks_of d f.level x)
body_set d f x g h b = (level_speaks d f.depth (shape_on d f) f.level x.fields x.entries (g.stands d) h b).1.1

pub body_back : (d : Side) (f : Fit) (x : Held) → IsFitted f → HasRoom f → IsKnown d f.level x.fields → IsAllowed d f.level (marks_of d f.level x) → AreSet d f.level (marks_of d f.level x) → IsBodyOf d f x.fields
body_back d f x g r k a e = level_holds d f.depth (shape_on d f) f.level x.fields x.entries (g.stands d) k a e r

pub whole_body : (d : Side) (f : Fit) (x : Held) → IsFitted f → HasRoom f → IsWholeOnSide d f.level x → AreSet d f.level (marks_of d f.level x) → IsBodyOf d f x.fields
whole_body d f x g r w e =
    body_back d f x g r (whole_known d f.level x (ready f g) w) (whole_allowed d f.level x (ready f g) w) e

pub over_whole : (d : Side) (f : Fit) (x : Held) → IsFitted f → AreRising (members_of x.fields) → IsBodyOf d f x.fields → IsWholeOnSide (other d) f.level (converted d f.level x)
over_whole d f x g h b = converted_whole d f.level x (ready f g) (body_allowed d f x g h b)

pub settled_is_whole : (d : Side) (f : Fit) (x : Held) → IsFitted f → AreRising (members_of x.fields) → IsBodyOf d f x.fields → IsWholeOnSide d f.level (settled d f.level x)
settled_is_whole d f x g h b = settled_whole d f.level x (ready f g) (body_allowed d f x g h b)

pub over_body : (d : Side) (f : Fit) (x : Held) → IsFitted f → HasRoom f → AreRising (members_of x.fields) → IsBodyOf d f x.fields → AreSet (other d) f.level (marks_of (other d) f.level (converted d f.level x)) → IsBodyOf (other d) f (converted d f.level x).fields
over_body d f x g r h b e = whole_body (other d) f (converted d f.level x) g r (over_whole d f x g h b) e

pub whole_object : (d : Side) (f : Fit) (x : Held) → IsFitted f → HasRoom f → IsWholeOnSide d f.level x → AreSet d f.level (marks_of d f.level x) → IsWholeObject d f x
whole_object d f x g r w e =
    let q = whole_settled d f.level x (ready f g) w in
    record { body = whole_body d f x g r w e; parts = q.parts; order = q.order; alive = q.alive }

pub object_whole : (d : Side) (f : Fit) (x : Held) → IsFitted f → AreRising (members_of x.fields) → IsWholeObject d f x → IsWholeOnSide d f.level x
object_whole d f x g h w =
    alive_whole d f.level x (ready f g) (body_known d f x.fields g h w.body) (body_allowed d f x g h w.body) w.parts (rise_from x.entries w.order) w.alive
