use Rattle.std.proofs.Common.{◌≡◌, ◌∙◌, ap, sym}
use Rattle.std.specs.Str.Parse.{digits_value}
use Rattle.std.proofs.lemmas.Fmt.{parse-decimal, decimal_is_IsNumeral}
use Rattle.crd_admission.proofs.numbers.value_of.Goals as goal

pub unreachable-requires : goal.unreachable-requires
unreachable-requires c =
    let h = (c.numbers.ensures c.args.text.now).0 c.requires in
    let parsed = parse-decimal 64 h.0 c.args.text.now c.parse.result h.1 h.1 (sym h.2) c.parse.ensures.value.0 in
    cc (parsed, c.in-Err.is)

pub returns : goal.returns
returns c =
    let h = (c.numbers.ensures c.args.text.now).0 c.requires in
    let parsed = parse-decimal 64 h.0 c.args.text.now c.parse.result h.1 h.1 (sym h.2) c.parse.ensures.value.0 in
    let same : c.in-Ok.number ≡ h.0 = cc (parsed, c.in-Ok.is) in
    let value : digits_value 10 c.args.text.now ≡ h.0 = ap (digits_value 10) (sym h.2) ∙ (decimal_is_IsNumeral h.0 h.1).1 in
    same ∙ sym value
