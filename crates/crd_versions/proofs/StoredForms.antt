-- Forms of a hub value, and the text in which one is stored.
use Rattle.std.proofs.Common.{◌≡◌, ◌∙◌, ℕ, ◌<◌, ◌≤◌, List, length, Some, Result, Ok, Err, IfOk, ap, sym, subst}
use Rattle.std.specs.Prelude.{slice_get}
use Rattle.std.proofs.lemmas.Option.{slice_get_within}
use Rattle.kj_value.specs.Json.{depth}
use Rattle.kj_value.specs.declared.error.NoMemory.{NoMemory}
use Rattle.kube_meta.specs.View.{ObjectView, object_of}
use Rattle.kube_meta.specs.Document.{document}
use Rattle.kube_meta.specs.declared.object.Object.{Object}
use Rattle.api_calls.specs.Spelled.{IsTextOf}
use Rattle.api_calls.specs.laws.SpelledLaws.{stored-text}
use Rattle.api_calls.specs.Versions.{Stand, IsStored}
use Rattle.api_calls.specs.declared.versions.TheConstants.{OBJECT_LEVELS}
use Rattle.keep_laws.specs.Spokes.{Spoke, Spokes}
use Rattle.keep_laws.specs.Pair.{IsPairOf}
use Rattle.keep_laws.specs.WholeHub.{IsSettledAt}
use Rattle.crd_meaning.specs.Definition.{Definition, Seat, at_hub, at_spoke, seat, count_of}
use Rattle.crd_meaning.specs.Objects.{IsWholeValue, PairsAt, IsFormAt}
use Rattle.crd_meaning.specs.Meant.{meant}
use Rattle.crd_versions.specs.inner.Forms.{IsFormOf}

pub if_ok : (P Q : Object → Type 0) (r : Result Object NoMemory) → ((x : Object) → P x → Q x) → IfOk r P → IfOk r Q
if_ok P Q (Ok x) f h = f x h
if_ok P Q (Err e) f h = h

-- ---- a form at a spoke

pub at_place : (d : Definition) (all : Spokes) (p : ℕ) (s : Spoke) → all ≡ d.spokes → slice_get d.spokes.items p ≡ Some s → slice_get all.items p ≡ Some s
at_place d all p s e q = ap (λ (a : Spokes). slice_get a.items p) e ∙ q

pub within : (d : Definition) (all : Spokes) (p : ℕ) (s : Spoke) → all ≡ d.spokes → slice_get d.spokes.items p ≡ Some s → p < length all.items
within d all p s e q = slice_get_within all.items p s (at_place d all p s e q)

form_of : (d : Definition) (all : Spokes) (v p : ℕ) (h x : ObjectView) (s : Spoke) → all ≡ d.spokes → slice_get d.spokes.items p ≡ Some s → seat d v ≡ at_spoke s → IsWholeValue d h → IsFormAt d v h x → IsFormOf all p x h
form_of d all v p h x s e q at w f =
    let pairs : PairsAt d.spokes (at_spoke s) h x = subst (λ (z : Seat). PairsAt d.spokes z h x) at f in
    subst (λ (a : Spokes). IsFormOf a p x h) (sym e) (record { spoke = s; place = q; object = pairs.0; whole = w.hub; pair = pairs.1 })

-- x is read of the stored text
pub form_back : (d : Definition) (all : Spokes) (v p : ℕ) (h x : ObjectView) (bytes : List ℕ) (s : Spoke) → Stand (meant d) → ((y : ObjectView) → IsTextOf y bytes → x ≡ y) → IsStored (meant d) v h bytes → all ≡ d.spokes → slice_get d.spokes.items p ≡ Some s → seat d v ≡ at_spoke s → IsFormOf all p x h
form_back d all v p h x bytes s stand read t e q at =
    subst (λ (y : ObjectView). IsFormOf all p y h) (sym (read t.form (stored-text (meant d) v h bytes stand t))) (form_of d all v p h t.form s e q at t.whole t.pairs)

pub made_form : (d : Definition) (all : Spokes) (v : ℕ) (h : ObjectView) (s : Spoke) (r : Result Object NoMemory) → all ≡ d.spokes → seat d v ≡ at_spoke s → IfOk r (λ x. IsPairOf all s (object_of x) h) → IfOk r (λ x. IsSettledAt all s (object_of x)) → IfOk r (λ x. IsFormAt d v h (object_of x))
made_form d all v h s (Ok x) e at p t =
    subst (λ (z : Seat). PairsAt d.spokes z h (object_of x)) (sym at) (subst (λ (a : Spokes). PairsAt a (at_spoke s) h (object_of x)) e (t.object, p))
made_form d all v h s (Err f) e at p t = p

-- ---- a form at the hub

pub hub_made : (d : Definition) (v : ℕ) (h : ObjectView) (r : Result Object NoMemory) → seat d v ≡ at_hub → IfOk r (λ x. object_of x ≡ h) → IfOk r (λ x. IsFormAt d v h (object_of x))
hub_made d v h r at e =
    if_ok (λ (x : Object). object_of x ≡ h) (λ (x : Object). IsFormAt d v h (object_of x)) r (λ x q. subst (λ (z : Seat). PairsAt d.spokes z h (object_of x)) (sym at) q) e

-- x is read of the stored text
pub hub_back : (d : Definition) (v : ℕ) (h x : ObjectView) (bytes : List ℕ) → Stand (meant d) → ((y : ObjectView) → IsTextOf y bytes → x ≡ y) → IsStored (meant d) v h bytes → seat d v ≡ at_hub → x ≡ h
hub_back d v h x bytes stand read t at =
    read t.form (stored-text (meant d) v h bytes stand t) ∙ subst (λ (z : Seat). PairsAt d.spokes z h t.form) at t.pairs

-- ---- how deep they are

pub form_levels : (d : Definition) (v : ℕ) (h : ObjectView) (r : Result Object NoMemory) → Stand (meant d) → v < count_of d → IsWholeValue d h → IfOk r (λ x. IsFormAt d v h (object_of x)) → IfOk r (λ x. depth (document (object_of x)) ≤ OBJECT_LEVELS)
form_levels d v h r stand known w f =
    if_ok (λ (x : Object). IsFormAt d v h (object_of x)) (λ (x : Object). depth (document (object_of x)) ≤ OBJECT_LEVELS) r (λ x p. (stand.pair v h (object_of x) known w p).levels) f

-- ---- the hub value of what is stored

pub is_stored : (d : Definition) (v : ℕ) (h g : ObjectView) (bytes : List ℕ) → g ≡ h → IsStored (meant d) v h bytes → IsStored (meant d) v g bytes
is_stored d v h g bytes e s = subst (λ (x : ObjectView). IsStored (meant d) v x bytes) (sym e) s

pub stored_of : (d : Definition) (v : ℕ) (h : ObjectView) (bytes : List ℕ) (r : Result Object NoMemory) → IsStored (meant d) v h bytes → IfOk r (λ x. object_of x ≡ h) → IfOk r (λ x. IsStored (meant d) v (object_of x) bytes)
stored_of d v h bytes r s e =
    if_ok (λ (x : Object). object_of x ≡ h) (λ (x : Object). IsStored (meant d) v (object_of x) bytes) r (λ x q. is_stored d v h (object_of x) bytes q s) e

pub whole_levels : (d : Definition) (h g : ObjectView) → Stand (meant d) → IsWholeValue d h → g ≡ h → depth (document g) ≤ OBJECT_LEVELS
whole_levels d h g stand w e = subst (λ (x : ObjectView). depth (document x) ≤ OBJECT_LEVELS) (sym e) (stand.whole h w).levels

pub stored_levels : (d : Definition) (h : ObjectView) (r : Result Object NoMemory) → Stand (meant d) → IsWholeValue d h → IfOk r (λ x. object_of x ≡ h) → IfOk r (λ x. depth (document (object_of x)) ≤ OBJECT_LEVELS)
stored_levels d h r stand w e =
    if_ok (λ (x : Object). object_of x ≡ h) (λ (x : Object). depth (document (object_of x)) ≤ OBJECT_LEVELS) r (λ x q. whole_levels d h (object_of x) stand w q) e
