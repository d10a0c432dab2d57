-- The example is a hub value.
use Rattle.std.proofs.Common.{◌≡◌, ◌<◌, ℕ, List, true, Some, None, codes, refl, arith}
use Rattle.std.specs.Prelude.{pos, nat_lt}
use Rattle.std.specs.List.{list_all}
use Rattle.std.specs.Str.{IsAscii}
use Rattle.std.proofs.lemmas.Bool.Decides.{nat_tests}
use Rattle.std.proofs.lemmas.List.Sums.{AllPass-from_list_all}
use Rattle.std.proofs.lemmas.Str.Ascii.{IsAscii-from_all}
use Rattle.kube_meta.specs.Names.{is_name, is_namespace}
use Rattle.versions_fixture.specs.Parts.{PartsView}
use Rattle.versions_fixture.specs.Definition.{IsFixtureHub}
use Rattle.versions_fixture.specs.Example.{example}

abbrev pub parts : PartsView
parts = record {
  name = codes "a";
  namespace = codes "default";
  created = Some (codes "2024-01-02T03:04:05Z");
  deleted = None;
  generation = pos 1;
  value = Some (codes "localhost");
}

small_all : (bs : List ℕ) → list_all (λ b. nat_lt b 128) bs ≡ true → IsAscii bs
small_all bs e = IsAscii-from_all bs (λ k d l. small (AllPass-from_list_all (λ b. nat_lt b 128) bs e k d l))
  where
    small : {n : ℕ} → nat_lt n 128 ≡ true → n < 128
    small {n} h = grind (arith, nat_tests)

named : is_name (codes "a") ≡ true
unfolding is_name
named = refl

placed : is_namespace (codes "default") ≡ true
unfolding is_namespace
placed = refl

pub whole : IsFixtureHub example
whole = record {
  parts = parts;
  is = refl;
  named = named;
  placed = placed;
  stamps = record {
    created = record { bytes = refl; ascii = small_all (codes "2024-01-02T03:04:05Z") refl; plain = refl };
    deleted = tt;
    generation = omega arith;
  };
}
