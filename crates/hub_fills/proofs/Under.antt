-- A path whose first name isn't there leads nowhere.
use Rattle.std.proofs.Common.{◌≡◌, ℕ, ◌<◌, ◌+◌, List, ◌∷◌, length, map, get_or, drop, Some, None, ap, sym, ◌∙◌}
use Rattle.std.proofs.lemmas.List.{drop_more}
use Rattle.kj_value.specs.Texts.{bytes_of}
use Rattle.kj_value.specs.declared.txt.Txt.{Txt}
use Rattle.hub_cells.specs.Level.{Name, Level, Inners, inners_in}
use Rattle.hub_fills.specs.Lookups.{level_at, level_under}
use Rattle.hub_fills.specs.inner.UnderLaws.{none_under}

pub under_none : (path : List Txt) (i : ℕ) (x : Txt) (k : Name) (l : Level) (is : Inners) → i < length path → x ≡ get_or path i x → k ≡ x.bytes → is ≡ inners_in l → None ≡ level_at k is → None ≡ level_under (map bytes_of (drop i path)) (Some l)
under_none path i x k l is p q e f none =
    let rest = map bytes_of (drop (i + 1) path) in
    let step : drop i path ≡ x ∷ drop (i + 1) path = drop_more path i x p ∙ ap (λ (t : Txt). t ∷ drop (i + 1) path) (sym q) in
    let gone : level_at x.bytes (inners_in l) ≡ None = ap (λ (n : Name). level_at n (inners_in l)) (sym e) ∙ ap (level_at k) (sym f) ∙ sym none in
    sym (none_under rest) ∙ ap (level_under rest) (sym gone) ∙ ap (λ (ts : List Txt). level_under (map bytes_of ts) (Some l)) (sym step)
