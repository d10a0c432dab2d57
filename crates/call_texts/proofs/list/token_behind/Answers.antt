use Rattle.std.proofs.Common.{◌≡◌, sym, subst, ◌∙◌}
use Rattle.std.specs.Prelude.{Some, None, slice_get, length, ◌-◌, List, []}
use Rattle.api_calls.specs.Token.{token_text}
use Rattle.api_core.specs.declared.seen.Seen.{Seen}
use Rattle.call_texts.specs.Listing.{place_behind}
use Rattle.call_texts.proofs.Paging.{place-behind-some, place-last, place-none}
use Rattle.call_texts.proofs.IfOk.{if_ok}
use Rattle.call_texts.proofs.list.token_behind.Goals as goal

pub returns-in-Some : goal.returns-in-Some
returns-in-Some c =
    let page = c.args.page.now in
    let last = subst (λ (ss : List Seen). slice_get ss (length ss - 1) ≡ Some c.in-Some.seen.now) c.as_slice.ensures (sym c.in-Some.ensures.value) in
    let same : token_text page.rv c.in-Some.seen.now.key ≡ place_behind page = sym (place-behind-some page c.if-page-eq0.false ∙ place-last page.rv page.items c.in-Some.seen.now last) in
    if_ok (λ t. t.bytes ≡ token_text page.rv c.in-Some.seen.now.key) (λ t. t.bytes ≡ place_behind page) c.token_at.result (λ t is. is ∙ same) c.token_at.ensures

pub returns-in-None : goal.returns-in-None
returns-in-None c =
    let page = c.args.page.now in
    let none = subst (λ (ss : List Seen). slice_get ss (length ss - 1) ≡ None) c.as_slice.ensures (sym c.in-None.ensures.value) in
    let same : [] ≡ place_behind page = sym (place-behind-some page c.if-page-eq0.false ∙ place-none page.rv page.items none) in
    if_ok (λ t. t.bytes ≡ []) (λ t. t.bytes ≡ place_behind page) c.of-in-None.result (λ t is. is ∙ same) c.of-in-None.ensures
