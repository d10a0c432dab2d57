-- What a key is seen as: a namespace and a name in it, as bytes. Keys are ordered by namespace and then by name.
use Rattle.std.specs.Prelude.{ℕ, List}
use Rattle.std.specs.Ordering.{nat_cmp, ordering_then}
use Rattle.std.specs.declared.cmp.Ordering.{Ordering}
use Rattle.std.specs.Cmp.Lexicographic.{slice_cmp}

pub record KeyView : Type 0 where
  pub ns : List ℕ
  pub name : List ℕ

-- by bytes
abbrev pub key_cmp : KeyView → KeyView → Ordering
key_cmp a b = ordering_then (slice_cmp nat_cmp a.ns b.ns) (slice_cmp nat_cmp a.name b.name)
