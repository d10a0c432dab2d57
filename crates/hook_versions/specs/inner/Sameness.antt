-- For private clauses: whether texts by name are the same, by cases.
use Rattle.std.specs.Prelude.{Bool, true, false, ◌&&◌, [], ◌∷◌}
use Rattle.std.specs.Str.{bytes_eq}
use Rattle.kube_meta.specs.View.{Texts}

abbrev pub texts_same : Texts → Texts → Bool
texts_same [] [] = true
texts_same (a ∷ more) (b ∷ others) = bytes_eq a.0 b.0 && bytes_eq a.1 b.1 && texts_same more others
texts_same _ _ = false
