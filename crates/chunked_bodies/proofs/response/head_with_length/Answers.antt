use Rattle.std.proofs.Common.{◌∙◌, ◌++◌, ℕ, List, ap, slice_range}
use Rattle.httparse.specs.Grammar.{print_field}
use Rattle.chunked_bodies.specs.Response.{length_line}
use Rattle.chunked_bodies.proofs.Heads.{line_within, head_assembled}
use Rattle.chunked_bodies.proofs.response.head_with_length.Goals as goal

pub part-requires-clause-ordered : goal.part-requires-clause-ordered
part-requires-clause-ordered c =
    line_within c.args.bytes.now c.args.head c.requires.0 c.field_line-start.result c.line_end-end.result c.requires.1 c.field_line-start.ensures.line c.line_end-end.ensures.line

pub returns : goal.returns
returns c = λ h at.
    head_assembled c.args.bytes.now _ c.args.head h c.args.len c.field_line-start.result c.line_end-end.result at c.field_line-start.ensures.line c.line_end-end.ensures.line
    (c.in_ok-extend_from_slice.ensures.items ∙ ap (λ (xs : List ℕ). c.push_length.new.out.items ++ xs) c.part.ensures
    ∙ ap (λ (xs : List ℕ). xs ++ slice_range c.args.bytes.now c.line_end-end.result c.args.head.len)
    (c.in_ok-push_length.ensures ∙ ap (λ (xs : List ℕ). xs ++ print_field (length_line c.args.len)) c.in_ok-out.ensures.items))
