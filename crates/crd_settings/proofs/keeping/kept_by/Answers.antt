use Rattle.std.proofs.Common.{option_map, map, refl, ap, sym, ◌∙◌, arith}
use Rattle.kj_value.specs.Seen.{json}
use Rattle.crd_settings.specs.Keeping.{RefusesStored, are_versions, names_in, other_shape, no_version, places_named}
use Rattle.crd_settings.proofs.Faults.{told}
use Rattle.crd_settings.proofs.Names.{differing-given, keeps-named, legal-places, names-given, texts-given}
use Rattle.crd_settings.proofs.keeping.kept_by.Goals as goal

pub returns-then-not-are_texts-clause-refused : goal.returns-then-not-are_texts-clause-refused
returns-then-not-are_texts-clause-refused c =
    told (RefusesStored c.args.definition.now (option_map (λ w. json w.now) c.args.given)) _ _ _ _ c.in_ok-broken-2.ensures
    (record {
      named = refl;
      breaks = other_shape (texts-given _ _ c.in-Some.ensures (sym c.are_texts.ensures ∙ c.if-not-are_texts.true)) refl;
    })

pub returns-then-not-differ-clause-refused : goal.returns-then-not-differ-clause-refused
returns-then-not-differ-clause-refused c =
    told (RefusesStored c.args.definition.now (option_map (λ w. json w.now) c.args.given)) _ _ _ _ c.in_ok-broken-3.ensures
    (record {
      named = refl;
      breaks = other_shape (differing-given _ _ c.in-Some.ensures (sym c.differ.ensures ∙ c.if-not-differ.true)) refl;
    })

pub returns-then-not-are_versions-clause-refused : goal.returns-then-not-are_versions-clause-refused
returns-then-not-are_versions-clause-refused c =
    told (RefusesStored c.args.definition.now (option_map (λ w. json w.now) c.args.given)) _ _ _ _ c.in_ok-broken-5.ensures
    (record {
      named = refl;
      breaks = no_version (names_in (map json c.in-Some.items.now))
          (names-given _ _ c.in-Some.ensures (sym c.are_texts.ensures ∙ c.if-not-are_texts.false) (sym c.differ.ensures ∙ c.if-not-differ.false))
          (ap (λ xs. are_versions xs (names_in (map json c.in-Some.items.now))) (sym c.versions.ensures.value) ∙ (sym c.are_versions.ensures ∙ c.if-not-are_versions.true))
          refl;
    })

pub returns-clause-ok : goal.returns-clause-ok
returns-clause-ok c =
    keeps-named c.args.definition.now _ c.in-Some.items.now _ _ c.in-Some.ensures
    (sym c.are_texts.ensures ∙ c.if-not-are_texts.false) (sym c.differ.ensures ∙ c.if-not-differ.false) (omega arith) c.versions.ensures.value
    (sym c.are_versions.ensures ∙ c.if-not-are_versions.false)
    (c.places.ensures.places ∙ ap (λ xs. places_named xs (names_in (map json c.in-Some.items.now))) c.versions-2.ensures.value)

pub returns-clause-legal : goal.returns-clause-legal
returns-clause-legal c =
    legal-places c.args.definition.now (names_in (map json c.in-Some.items.now)) _ c.versions.ensures.whole.most
    (c.places.ensures.places ∙ ap (λ xs. places_named xs (names_in (map json c.in-Some.items.now))) c.versions-2.ensures.value) c.places.ensures.len
