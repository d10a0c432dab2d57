-- Keys of objects that rise, one after the other.
use Rattle.std.proofs.Common.{◌≡◌, ◌-◌, ◌+◌, ◌<◌, ◌&&◌, ℕ, zero, suc, Bool, true, false, List, [], ◌∷◌, Option, Some, map, drop, length, get_or, ap, sym, ◌∙◌, arith}
use Rattle.std.specs.Prelude.{slice_get}
use Rattle.kj_value.specs.Json.{Json}
use Rattle.kj_value.specs.Seen.{json}
use Rattle.kj_value.specs.declared.value.JVal.{JVal}
use Rattle.kube_meta.specs.Key.{KeyView}
use Rattle.far_migrate.specs.Puts.{key_of}
use Rattle.far_migrate.specs.Pages.{is_behind, rise_behind, last_key}
use Rattle.far_migrate.proofs.Going.{front_is}

-- this key comes behind the one before it, or not
next_key : (vs : List JVal) (i : ℕ) (v : JVal) (before : Option KeyView) (key : KeyView) (b : Bool) → i < length vs → v ≡ get_or vs i v → key ≡ key_of (json v) → b ≡ is_behind before key
    → rise_behind before (drop i (map json vs)) ≡ b && rise_behind (Some key) (drop (i + 1) (map json vs))
next_key vs i v before key b within at key_is b_is =
    ap (λ (js : List Json). rise_behind before js) (front_is vs i v within at)
    ∙ ap (λ (k : KeyView). is_behind before k && rise_behind (Some k) (drop (i + 1) (map json vs))) (sym key_is)
    ∙ ap (λ (c : Bool). c && rise_behind (Some key) (drop (i + 1) (map json vs))) (sym b_is)

pub falls : (vs : List JVal) (i : ℕ) (v : JVal) (last before : Option KeyView) (key : KeyView) (b : Bool) → i < length vs → v ≡ get_or vs i v
    → rise_behind last (map json vs) ≡ rise_behind before (drop i (map json vs)) → key ≡ key_of (json v) → b ≡ is_behind before key → b ≡ false
    → false ≡ rise_behind last (map json vs)
falls vs i v last before key b within at so_far key_is b_is off =
    sym (so_far ∙ next_key vs i v before key b within at key_is b_is ∙ ap (λ (c : Bool). c && rise_behind (Some key) (drop (i + 1) (map json vs))) off)

pub rises : (vs : List JVal) (i : ℕ) (v : JVal) (last before : Option KeyView) (key : KeyView) (b : Bool) → i < length vs → v ≡ get_or vs i v
    → rise_behind last (map json vs) ≡ rise_behind before (drop i (map json vs)) → key ≡ key_of (json v) → b ≡ is_behind before key → b ≡ true
    → rise_behind last (map json vs) ≡ rise_behind (Some key) (drop (i + 1) (map json vs))
rises vs i v last before key b within at so_far key_is b_is on =
    so_far ∙ next_key vs i v before key b within at key_is b_is ∙ ap (λ (c : Bool). c && rise_behind (Some key) (drop (i + 1) (map json vs))) on

at_last : (vs : List JVal) (i : ℕ) (l : Option KeyView) (v : JVal) → suc i ≡ length vs → Some v ≡ slice_get vs i → last_key l (map json vs) ≡ Some (key_of (json v))
at_last [] i l v n at = absurd (cc)
at_last (w ∷ []) zero l v n at =
    let same : v ≡ w = cc in
    ap (λ (u : JVal). Some (key_of (json u))) (sym same)
at_last (w ∷ []) (suc i) l v n at = absurd (cc)
at_last (w ∷ x ∷ vs) zero l v n at = absurd (omega arith)
at_last (w ∷ x ∷ vs) (suc i) l v n at = at_last (x ∷ vs) i (Some (key_of (json w))) v (omega arith) at

pub last_is : (vs : List JVal) (l : Option KeyView) (v : JVal) → Some v ≡ slice_get vs (length vs - 1) → last_key l (map json vs) ≡ Some (key_of (json v))
last_is [] l v at = absurd (cc)
last_is (w ∷ vs) l v at = at_last (w ∷ vs) (length (w ∷ vs) - 1) l v (omega arith) at
