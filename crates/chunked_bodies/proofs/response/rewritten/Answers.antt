use Rattle.std.proofs.Common.{◌∙◌, ◌++◌, ℕ, List, ap, length}
use Rattle.httparse.specs.Grammar.{print_response}
use Rattle.chunked_bodies.specs.Response.{head_with_length}
use Rattle.chunked_bodies.proofs.Handing.{no_chunked_body, rewrites_found}
use Rattle.chunked_bodies.proofs.response.rewritten.Goals as goal

pub returns-in_default-2 : goal.returns-in_default-2
returns-in_default-2 c =
    let e = rw c.in_default-2.is at c.in_ok-content.ensures in
    no_chunked_body c.args.bytes.now c.in-Some.head c.in-Some.ensures.0 c.in-Some.ensures.1 e

pub returns : goal.returns
returns c =
    let e = rw c.in-Some-2.is at c.in_ok-content.ensures in
    let h = c.in-Some.ensures.0 in
    let at = c.in-Some.ensures.1 in
    rewrites_found c.args.bytes.now c.in-Some-2.content.items c.in_ok-out.out.items c.in-Some.head h at e
    (c.in_ok-out.ensures h at ∙ ap (λ (xs : List ℕ). print_response (head_with_length h c.in-Some.head.coding (length xs)) ++ xs) c.deref.ensures.value)
