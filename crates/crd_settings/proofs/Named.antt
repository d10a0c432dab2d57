-- Loops over names and parts, as they write one more.
use Rattle.std.proofs.Common.{◌≡◌, ℕ, suc, ◌+◌, ◌<◌, List, [], ◌∷◌, ◌++◌, length, get_or, map, drop, ap, sym, ◌∙◌, append_assoc, add-one}
use Rattle.std.proofs.lemmas.List.{drop_more, map_push}
use Rattle.kj_value.specs.Text.{quoted}
use Rattle.kj_value.specs.Texts.{bytes_of}
use Rattle.kj_value.specs.declared.txt.Txt.{Txt}
use Rattle.crd_reading.specs.Seen.{version_of}
use Rattle.crd_reading.specs.View.{VersionView}
use Rattle.crd_reading.specs.declared.definition.Version.{Version}
use Rattle.crd_settings.specs.Pieces.{comma_before, names_from, part_text, parts_text}
use Rattle.crd_settings.specs.declared.cut.Part.{Part}
use Rattle.crd_settings.specs.declared.parts.Mark.{Mark}

-- what is left begins with the thing at the place
begins : {A : Type 0} (xs : List A) (i : ℕ) (x : A) → i < length xs → x ≡ get_or xs i x → drop i xs ≡ x ∷ drop (i + 1) xs
begins xs i x within is = drop_more xs i x within ∙ ap (λ y. y ∷ drop (i + 1) xs) (sym is)

-- a version's name, in quotes
pub quoted_here : (vs : List Version) (i : ℕ) (v : Version) (ts : List Txt) (t : Txt) → i < length vs → v ≡ get_or vs i v → bytes_of t ≡ quoted (version_of v).name
    → map bytes_of (ts ++ t ∷ []) ++ map (λ (w : VersionView). quoted w.name) (map version_of (drop (i + 1) vs)) ≡ map bytes_of ts ++ map (λ (w : VersionView). quoted w.name) (map version_of (drop i vs))
quoted_here vs i v ts t within is name =
    let rest : List (List ℕ) = map (λ (w : VersionView). quoted w.name) (map version_of (drop (i + 1) vs)) in
    ap (λ (l : List (List ℕ)). l ++ rest) (map_push bytes_of ts t) ∙ append_assoc (map bytes_of ts) (bytes_of t ∷ []) rest
    ∙ ap (λ (b : List ℕ). map bytes_of ts ++ b ∷ rest) name ∙ ap (λ (l : List Version). map bytes_of ts ++ map (λ (w : VersionView). quoted w.name) (map version_of l)) (sym (begins vs i v within is))

-- a name, behind a comma
pub name_here : (ns : List Txt) (i : ℕ) (n : Txt) (a b : List ℕ) {p t : List ℕ} → i < length ns → n ≡ get_or ns i n → p ≡ comma_before i → t ≡ bytes_of n → b ≡ (a ++ p) ++ t
    → b ++ names_from (i + 1) (map bytes_of (drop (i + 1) ns)) ≡ a ++ names_from i (map bytes_of (drop i ns))
name_here ns i n a b {p} {t} within is comes name now =
    let rest : List ℕ = names_from (i + 1) (map bytes_of (drop (i + 1) ns)) in
    let next : rest ≡ names_from (suc i) (map bytes_of (drop (i + 1) ns)) = ap (λ (k : ℕ). names_from k (map bytes_of (drop (i + 1) ns))) (add-one i) in
    ap (λ (l : List ℕ). l ++ rest) (now ∙ append_assoc a p t) ∙ append_assoc a (p ++ t) rest
    ∙ ap (λ (l : List ℕ). a ++ ((l ++ t) ++ rest)) comes ∙ ap (λ (l : List ℕ). a ++ ((comma_before i ++ l) ++ rest)) name ∙ ap (λ (l : List ℕ). a ++ ((comma_before i ++ bytes_of n) ++ l)) next
    ∙ ap (λ (l : List Txt). a ++ names_from i (map bytes_of l)) (sym (begins ns i n within is))

-- a part
pub part_here : (m : ℕ → Mark) (ps : List Part) (i : ℕ) (q : Part) (a b : List ℕ) {t : List ℕ} → i < length ps → q ≡ get_or ps i q → t ≡ part_text m q → b ≡ a ++ t
    → b ++ parts_text m (drop (i + 1) ps) ≡ a ++ parts_text m (drop i ps)
part_here m ps i q a b {t} within is text now =
    let rest : List ℕ = parts_text m (drop (i + 1) ps) in
    ap (λ (l : List ℕ). l ++ rest) (now ∙ ap (λ (l : List ℕ). a ++ l) text) ∙ append_assoc a (part_text m q) rest ∙ ap (λ (l : List Part). a ++ parts_text m l) (sym (begins ps i q within is))
