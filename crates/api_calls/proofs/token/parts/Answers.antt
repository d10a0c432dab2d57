use Rattle.std.proofs.Common.{sym, ◌∙◌}
use Rattle.std.specs.Prelude.{codes, decimal}
use Rattle.std.specs.Cmp.Lexicographic.{same_text, other_text}
use Rattle.kube_meta.specs.Names.{is_namespace, is_name}
use Rattle.api_calls.proofs.Tokens.{negated, not_negated, apart, line_parts, made_line, behind_format, behind_number, format_cut, number_cut, key_cut}
use Rattle.api_calls.proofs.token.parts.Goals as goal

pub returns-in_default : goal.returns-in_default
returns-in_default c = λ r k t same. c.in_default.ensures (codes "1") (behind_format r k) (sym same ∙ line_parts r k)

pub returns-then-ne : goal.returns-then-ne
returns-then-ne c = λ r k t same.
    let fc = format_cut _ _ _ r k c.in-Some.ensures.0 c.in-Some.ensures.1 same in
    other_text _ _ (negated _ (sym c.ne.ensures ∙ c.if-ne.true)) fc.0

pub returns-in_default-cut : goal.returns-in_default-cut
returns-in_default-cut c = λ r k t same.
    let fc = format_cut _ _ _ r k c.in-Some.ensures.0 c.in-Some.ensures.1 same in
    c.in_default-cut.ensures (decimal r) (behind_number k) fc.1

pub returns-in_default-cut-2 : goal.returns-in_default-cut-2
returns-in_default-cut-2 c = λ r k t same.
    let fc = format_cut _ _ _ r k c.in-Some.ensures.0 c.in-Some.ensures.1 same in
    let nc = number_cut _ _ _ r k c.in-Some-cut.ensures.0 c.in-Some-cut.ensures.1 t fc.1 in
    c.in_default-cut-2.ensures k.ns k.name nc.1

pub returns-in_default-number_of : goal.returns-in_default-number_of
returns-in_default-number_of c = λ r k t same.
    let fc = format_cut _ _ _ r k c.in-Some.ensures.0 c.in-Some.ensures.1 same in
    let nc = number_cut _ _ _ r k c.in-Some-cut.ensures.0 c.in-Some-cut.ensures.1 t fc.1 in
    c.in_default-number_of.ensures r t.number (sym nc.0)

pub returns-then-not-namespace_ok : goal.returns-then-not-namespace_ok
returns-then-not-namespace_ok c = λ r k t same.
    let fc = format_cut _ _ _ r k c.in-Some.ensures.0 c.in-Some.ensures.1 same in
    let nc = number_cut _ _ _ r k c.in-Some-cut.ensures.0 c.in-Some-cut.ensures.1 t fc.1 in
    let kc = key_cut _ _ _ r k c.in-Some-cut-2.ensures.0 c.in-Some-cut-2.ensures.1 t nc.1 in
    apart is_namespace _ k.ns kc.0 (sym c.namespace_ok.ensures ∙ c.if-not-namespace_ok.true) t.ns

pub returns-then-not-name_ok : goal.returns-then-not-name_ok
returns-then-not-name_ok c = λ r k t same.
    let fc = format_cut _ _ _ r k c.in-Some.ensures.0 c.in-Some.ensures.1 same in
    let nc = number_cut _ _ _ r k c.in-Some-cut.ensures.0 c.in-Some-cut.ensures.1 t fc.1 in
    let kc = key_cut _ _ _ r k c.in-Some-cut-2.ensures.0 c.in-Some-cut-2.ensures.1 t nc.1 in
    apart is_name _ k.name kc.1 (sym c.name_ok.ensures ∙ c.if-not-name_ok.true) t.name

pub returns : goal.returns
returns c = (
  record {
    number = c.in-Some-number_of.ensures.0;
    ns = sym c.namespace_ok.ensures ∙ c.if-not-namespace_ok.false;
    name = sym c.name_ok.ensures ∙ c.if-not-name_ok.false;
  },
  made_line _ _ _ _ _ _ _ _ c.in-Some.ensures.0 (same_text _ _ (not_negated _ (sym c.ne.ensures ∙ c.if-ne.false))) c.in-Some-cut.ensures.0 c.in-Some-number_of.ensures.1 c.in-Some-cut-2.ensures.0,
)
