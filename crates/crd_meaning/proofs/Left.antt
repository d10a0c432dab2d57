-- What is left of an object once settled is the form of its hub value, and an object with a hub value can be read.
use Rattle.std.proofs.Common.{◌≡◌, ℕ, ◌<◌, List, Bool, Option, Some, None, refl, sym, subst}
use Rattle.kj_value.specs.Json.{members_of}
use Rattle.kj_value.specs.Sound.{AreRising}
use Rattle.kj_value.specs.Fields.{Pairs}
use Rattle.kube_meta.specs.View.{ObjectView}
use Rattle.kept_entries.specs.declared.entry.Entry.{Entry}
use Rattle.kept_entries.specs.Text.{IsKept}
use Rattle.hub_cells.specs.Side.{spoke}
use Rattle.hub_cells.specs.Level.{Name}
use Rattle.keep_laws.specs.FittedBody.{IsBodyOf}
use Rattle.keep_laws.specs.Spokes.{Spoke, Spokes, api_version}
use Rattle.keep_laws.specs.Keys.{KeyKind, plain, of_hub, of_spoke, of_none, key_kind}
use Rattle.keep_laws.specs.Notes.{noted, Spells}
use Rattle.keep_laws.specs.Judging.{IsJudged, OtherNote}
use Rattle.keep_laws.specs.Over.{SpokeNoteOver, NoteOver, GoesOver, IsRead, IsFirstBad}
use Rattle.keep_laws.specs.Given.{Laws}
use Rattle.keep_laws.proofs.Trips.{back_settles}
use Rattle.crd_meaning.specs.Definition.{Definition, Seat, at_hub, at_spoke, nowhere, seat, count_of, IsLoaded}
use Rattle.crd_meaning.specs.Objects.{IsWholeValue, PairsAt}
use Rattle.crd_meaning.specs.Admission.{own_name, LeftAt, IsHubOf}
use Rattle.crd_meaning.proofs.Annotations.{hub_named}
use Rattle.crd_meaning.proofs.Seats.{seat_place}
use Rattle.crd_meaning.proofs.Made.{has_form}

module _ (laws : Laws) (d : Definition) (loaded : IsLoaded d) where
  pub hub_over : (v : ℕ) (s : Spoke) (x h : ObjectView) → v < count_of d → seat d v ≡ at_spoke s
      → x.api_version ≡ api_version d.spokes.group s.name → AreRising (members_of x.body) → IsBodyOf spoke s.fit x.body
      → GoesOver d.spokes s x h → IsWholeValue d h → IsHubOf d v x h
  hub_over v s x h known e version rises b g w =
      let here = seat_place d v s e in
      let form = has_form laws d loaded v h known w in
      let pairs : PairsAt d.spokes (at_spoke s) h form.0 = subst (λ (q : Seat). PairsAt d.spokes q h form.0) e form.1 in
      let left = back_settles laws d.spokes here.at s loaded.definition here.found x h form.0 rises b g pairs.0 pairs.1 in
      record { left = form.0; settles = subst (λ (q : Seat). LeftAt d.spokes q x form.0) (sym e) left; whole = w; pairs = form.1 }

-- ---- what settles is read

-- an annotation that is read and there spells entries
abbrev IsSpelled : Name → Type 0
IsSpelled t = (es : List Entry) × IsKept t es

judged_spelled : (s : Spoke) (body : Pairs) (o q : Option Name) (t : Name) → o ≡ Some t → IsJudged s body o q → IsSpelled t
judged_spelled s body o q t e j =
    let here : IsJudged s body (Some t) q = subst (λ (r : Option Name). IsJudged s body r q) e j in
    (here.0, here.1)

spelled_at_hub : (body : Pairs) (c : KeyKind) (o q : Option Name) (t : Name) → o ≡ Some t → IsRead None c → OtherNote None body c o q → IsSpelled t
spelled_at_hub body plain o q t e r a = absurd r
spelled_at_hub body of_hub o q t e r a = absurd (cc)
spelled_at_hub body (of_spoke s) o q t e r a = judged_spelled s body o q t e a
spelled_at_hub body of_none o q t e r a = absurd r

spelled_at_spoke : (s : Spoke) (body : Pairs) (es fs : List Entry) (c : KeyKind) (o q : Option Name) (t : Name) → o ≡ Some t → IsRead (Some s.name) c → (c ≡ of_hub → Spells o fs) → NoteOver s body es c o q → IsSpelled t
spelled_at_spoke s body es fs plain o q t e r h a = absurd r
spelled_at_spoke s body es fs of_hub o q t e r h a = (fs, subst (λ (p : Option Name). Spells p fs) e (h refl))
spelled_at_spoke s body es fs (of_spoke u) o q t e r h a =
    judged_spelled u body o q t e (subst (λ (b : Bool). SpokeNoteOver b u body es o q) r a)
spelled_at_spoke s body es fs of_none o q t e r h a = absurd r

pub read_at : (all : Spokes) (z : Seat) (x y : ObjectView) → LeftAt all z x y → (k : Name) → IsFirstBad all (own_name z) x.meta.annotations k → ⊥
read_at all at_hub x y l k u =
    let kept = spelled_at_hub y.body (key_kind all k) (noted k x) (noted k y) u.text u.there u.read (l.notes k) in
    u.bad kept.0 kept.1
read_at all (at_spoke s) x y l k u =
    let g = l.over in
    let kept = spelled_at_spoke s l.hub.body g.spoke_kept g.hub_kept (key_kind all k) (noted k x) (noted k l.hub) u.text u.there u.read (λ e. subst (λ (j : Name). Spells (noted j x) g.hub_kept) (sym (hub_named all k e)) g.spelled) (g.notes k) in
    u.bad kept.0 kept.1
read_at all nowhere x y l k u = l

pub readable : (d : Definition) (v : ℕ) (x h : ObjectView) → IsHubOf d v x h → (k : Name) → IsFirstBad d.spokes (own_name (seat d v)) x.meta.annotations k → ⊥
readable d v x h a k u = read_at d.spokes (seat d v) x a.left a.settles k u
