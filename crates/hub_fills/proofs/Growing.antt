-- One object inside more: of the fills, and of the first late name.
use Rattle.std.proofs.Common.{◌≡◌, ℕ, suc, ◌<◌, ◌+◌, List, [], ◌∷◌, ◌++◌, map, take, drop, length, get_or, Option, refl, ap, ap₂, sym, ◌∙◌, append_assoc}
use Rattle.std.specs.Prelude.{codes}
use Rattle.std.proofs.lemmas.List.{take_more, drop_more, map-append}
use Rattle.kj_value.specs.Json.{Json}
use Rattle.kj_value.specs.Texts.{bytes_of}
use Rattle.kj_value.specs.declared.txt.Txt.{Txt}
use Rattle.hub_cells.specs.Level.{Name, Level, level, cells_in, inners_in}
use Rattle.hub_cells.specs.LevelDepth.{level_depth, inners_depth}
use Rattle.hub_cells.specs.Fit.{Fit}
use Rattle.hub_cells.specs.SeenFit.{inners_of}
use Rattle.hub_cells.specs.declared.fitted.Inner.{Inner}
use Rattle.hub_fills.specs.Fills.{Fills, fills, Within, nothing_within, within, fill_of, fills_of, fills_within}
use Rattle.hub_fills.specs.Lookups.{level_in}
use Rattle.hub_fills.specs.SeenFills.{within_of}
use Rattle.hub_fills.specs.LateNames.{joined, late_in, late_within}
use Rattle.hub_fills.specs.inner.UnderLaws.{levels_under, levels_last}
use Rattle.hub_fills.specs.declared.fills.Deeper.{Deeper}
use Rattle.hub_fills.proofs.LateFolds.{best, within_more}

abbrev add_within : Within → Fills → Within
add_within nothing_within f = within f nothing_within
add_within (within g gs) f = within g (add_within gs f)

within_push : (ds : List Deeper) (d : Deeper) → within_of (ds ++ d ∷ []) ≡ add_within (within_of ds) d.fills
within_push [] d = refl
within_push (e ∷ ds) d = ap (within e.fills) (within_push ds d)

fills_push : (ms : List (Option Level)) (is : List Inner) (o : Inner) → fills_within ms (inners_of (is ++ o ∷ [])) ≡ add_within (fills_within ms (inners_of is)) (fills_of (map (level_in o.hub.bytes) ms) o.fitted.level)
fills_push ms [] o = refl
fills_push ms (i ∷ is) o = ap (within (fills_of (map (level_in i.hub.bytes) ms) i.fitted.level)) (fills_push ms is o)

pub fills_step : (ks below : List Name) (fs : List Fit) (ds es : List Deeper) (f : Fills) (is : List Inner) (i : ℕ) (o : Inner) → i < length is → o ≡ get_or is i o → below ≡ ks ++ o.hub.bytes ∷ [] → es ≡ ds ++ record { fills = f } ∷ [] → f ≡ fills_of (levels_under below fs) o.fitted.level → within_of ds ≡ fills_within (levels_under ks fs) (inners_of (take i is)) → within_of es ≡ fills_within (levels_under ks fs) (inners_of (take (i + 1) is))
fills_step ks below fs ds es f is i o p e q push made h =
    let ms : List (Option Level) = levels_under ks fs in
    let inside : f ≡ fills_of (map (level_in o.hub.bytes) ms) o.fitted.level = made ∙ ap (λ (ns : List Name). fills_of (levels_under ns fs) o.fitted.level) q ∙ ap (λ (os : List (Option Level)). fills_of os o.fitted.level) (levels_last ks o.hub.bytes fs) in
    let step : take (i + 1) is ≡ take i is ++ o ∷ [] = take_more is i o p ∙ ap (λ (x : Inner). take i is ++ x ∷ []) (sym e) in
    ap within_of push ∙ within_push ds (record { fills = f }) ∙ ap₂ add_within h inside ∙ sym (fills_push ms (take i is) o) ∙ ap (λ (js : List Inner). fills_within ms (inners_of js)) (sym step)

pub late_step : (ks below : List Name) (fs : List Fit) (a b x : Option (List ℕ)) (is : List Inner) (i : ℕ) (o : Inner) → i < length is → o ≡ get_or is i o → below ≡ ks ++ o.hub.bytes ∷ [] → b ≡ best a (late_in (levels_under below fs) below o.fitted.level) → best a (late_within (levels_under ks fs) ks (inners_of (drop i is))) ≡ x → best b (late_within (levels_under ks fs) ks (inners_of (drop (i + 1) is))) ≡ x
late_step ks below fs a b x is i o p e q made h =
    let ms : List (Option Level) = levels_under ks fs in
    let rest : List Inner = drop (i + 1) is in
    let here : b ≡ best a (late_in (map (level_in o.hub.bytes) ms) (ks ++ o.hub.bytes ∷ []) o.fitted.level) = made ∙ ap (λ (ns : List Name). best a (late_in (levels_under ns fs) ns o.fitted.level)) q ∙ ap (λ (os : List (Option Level)). best a (late_in os (ks ++ o.hub.bytes ∷ []) o.fitted.level)) (levels_last ks o.hub.bytes fs) in
    let step : drop i is ≡ o ∷ rest = drop_more is i o p ∙ ap (λ (y : Inner). y ∷ rest) (sym e) in
    ap (λ (c : Option (List ℕ)). best c (late_within ms ks (inners_of rest))) here ∙ within_more ms ks o.spoke.bytes o.hub.bytes o.required o.fitted.level (inners_of rest) a ∙ ap (λ (js : List Inner). best a (late_within ms ks (inners_of js))) (sym step) ∙ h

-- ---- lists that are pushed to, one element more

pub mapped_step : {A B C : Type 0} (f : A → C) (g : B → C) (vs ws : List A) (v : A) (xs : List B) (i : ℕ) (x : B) → i < length xs → x ≡ get_or xs i x → ws ≡ vs ++ v ∷ [] → f v ≡ g x → map f vs ≡ map g (take i xs)
    → map f ws ≡ map g (take (i + 1) xs)
mapped_step f g vs ws v xs i x p e push here h =
    let step = take_more xs i x p ∙ ap (λ y. take i xs ++ y ∷ []) (sym e) in
    ap (map f) push ∙ map-append f vs (v ∷ []) ∙ ap₂ (λ ys y. ys ++ y ∷ []) h here ∙ sym (map-append g (take i xs) (x ∷ [])) ∙ ap (map g) (sym step)

pub mapped_twice : {A B C D : Type 0} (f : A → D) (g : C → D) (k : B → C) (vs ws : List A) (v : A) (xs : List B) (i : ℕ) (x : B) → i < length xs → x ≡ get_or xs i x → ws ≡ vs ++ v ∷ [] → f v ≡ g (k x)
    → map f vs ≡ map g (map k (take i xs)) → map f ws ≡ map g (map k (take (i + 1) xs))
mapped_twice f g k vs ws v xs i x p e push here h =
    let step = take_more xs i x p ∙ ap (λ y. take i xs ++ y ∷ []) (sym e) in
    ap (map f) push ∙ map-append f vs (v ∷ []) ∙ ap₂ (λ ys y. ys ++ y ∷ []) h here ∙ sym (map-append g (map k (take i xs)) (k x ∷ []))
    ∙ ap (map g) (sym (map-append k (take i xs) (x ∷ [])) ∙ ap (map k) (sym step))

-- ---- the text of a path

joined_front : (k : Name) (ns : List Name) (n : Name) → joined (k ∷ ns ++ n ∷ []) ≡ k ++ codes "." ++ joined (ns ++ n ∷ [])
joined_front k [] n = refl
joined_front k (m ∷ ns) n = refl

pub path_step : (t u v : List ℕ) (ks : List Txt) (i : ℕ) (k : Txt) (s : List ℕ) (n : Name) (x : List ℕ) → i < length ks → k ≡ get_or ks i k → s ≡ k.bytes → u ≡ t ++ s → v ≡ u ++ codes "."
    → t ++ joined (map bytes_of (drop i ks) ++ n ∷ []) ≡ x → v ++ joined (map bytes_of (drop (i + 1) ks) ++ n ∷ []) ≡ x
path_step t u v ks i k s n x p e is push dot h =
    let rest : List Txt = drop (i + 1) ks in
    let step : drop i ks ≡ k ∷ rest = drop_more ks i k p ∙ ap (λ (y : Txt). y ∷ rest) (sym e) in
    let later : List ℕ = joined (map bytes_of rest ++ n ∷ []) in
    let text : v ≡ t ++ k.bytes ++ codes "." = dot ∙ ap (λ (y : List ℕ). y ++ codes ".") (push ∙ ap (λ (y : List ℕ). t ++ y) is) in
    ap (λ (y : List ℕ). y ++ later) text ∙ append_assoc (t ++ k.bytes) (codes ".") later ∙ append_assoc t k.bytes (codes "." ++ later)
    ∙ ap (λ (y : List ℕ). t ++ y) (sym (append_assoc k.bytes (codes ".") later) ∙ sym (joined_front k.bytes (map bytes_of rest) n))
    ∙ ap (λ (js : List Txt). t ++ joined (map bytes_of js ++ n ∷ [])) (sym step) ∙ h

-- ---- a level by its cells and its objects

pub level_filled : (ms : List (Option Level)) (l : Level) (vs : List (Option Json)) (w : Within) → vs ≡ map (fill_of ms) (cells_in l) → w ≡ fills_within ms (inners_in l) → fills vs w ≡ fills_of ms l
level_filled ms (level cs is) vs w e f = ap₂ fills e f

pub level_within : (l : Level) → suc (inners_depth (inners_in l)) ≡ level_depth l
level_within (level cs is) = refl
