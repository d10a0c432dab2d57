use Rattle.std.proofs.Common.{◌∙◌, ◌-◌, sym, subst, arith, length, List, ℕ, nat_lt}
use Rattle.std.proofs.lemmas.Bool.Decides.{nat_tests}
use Rattle.document_text.specs.FieldLaws.{before, after, around_meta, others}
use Rattle.document_text.specs.inner.Cut.{IsCut}
use Rattle.document_text.specs.Numbered.{IsBare, metadata_name}
use Rattle.document_text.proofs.Putting.{parted_at, never-empty, inside-is, rest-fits, cut-is}
use Rattle.document_text.proofs.numbers.cut.Goals as goal

pub unreachable-requires : goal.unreachable-requires
unreachable-requires c =
    never-empty c.requires.0 c.as_bytes-bytes.result.now (subst (λ (bs : List ℕ). IsBare c.requires.0 bs) (sym c.as_bytes-bytes.ensures.value) c.requires.1) c.in_default.ensures.cases

pub metadata_of-inside-requires : goal.metadata_of-inside-requires
metadata_of-inside-requires c =
    let x = c.requires.0 in (
      before metadata_name (around_meta x),
      others x.meta,
      after metadata_name (around_meta x),
      parted_at x c.args.text.now c.in-Some.fields.now c.requires.1 c.in-Some.field-0-0.now (sym c.as_bytes-bytes.ensures.value ∙ c.in-Some.ensures.cases.0),
    )

pub overflow_sub-result : goal.overflow_sub-result
overflow_sub-result c =
    let x = c.requires.0 in
    let is = sym c.as_bytes-bytes.ensures.value ∙ c.in-Some.ensures.cases.0 in
    let bare = subst (λ (bs : List ℕ). IsBare x bs) (sym c.as_bytes-bytes.ensures.value) c.requires.1 in
    let found = inside-is x c.args.text.now c.in-Some.fields.now c.metadata_of-inside.result.now c.in-Some.field-0-0.now c.requires.1 is c.metadata_of-inside.ensures in
    rest-fits x c.as_bytes-bytes.result.now c.metadata_of-inside.result.now c.ending-rest.result.now bare found c.ending-rest.ensures

pub returns : goal.returns
returns c = λ x b.
    let is = sym c.as_bytes-bytes.ensures.value ∙ c.in-Some.ensures.cases.0 in
    let found = inside-is x c.args.text.now c.in-Some.fields.now c.metadata_of-inside.result.now c.in-Some.field-0-0.now b is c.metadata_of-inside.ensures in
    let some = nat_lt (length c.ending-rest.result.now) (length c.metadata_of-inside.result.now) in
    subst (λ (bs : List ℕ). IsCut x c.args.text.now (length bs - length c.ending-rest.result.now) some) (sym c.as_bytes-bytes.ensures.value)
    (cut-is x c.args.text.now c.metadata_of-inside.result.now c.ending-rest.result.now some b found.0 found.1 c.ending-rest.ensures (λ p. grind (arith, nat_tests, p)) (λ p. grind (arith, nat_tests, p)))
