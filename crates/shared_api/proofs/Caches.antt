-- The texts that a pass's cache holds, as the list that it has seen goes on.
use Rattle.std.proofs.Common.{◌≡◌, ◌∙◌, ℕ, ◌+◌, List, [], ◌∷◌, ◌++◌, None, ap, sym, subst, refl}
use Rattle.std.proofs.lemmas.List.{append-nil}
use Rattle.std.specs.Prelude.{Option, Result, IfOk}
use mathlib.Core.List.{IsPrefix}
use Rattle.kj_value.specs.declared.error.NoMemory.{NoMemory}
use Rattle.kube_meta.specs.Key.{KeyView}
use Rattle.api_calls.specs.Calls.{Call, Server, Told}
use Rattle.api_calls.specs.Item.{Item, Logged, items}
use Rattle.api_calls.specs.Legal.{Each}
use Rattle.api_calls.specs.Meaning.{Meaning}
use Rattle.api_calls.specs.Pages.{Place}
use Rattle.api_core.specs.Prepared.{Sees}
use Rattle.api_core.specs.declared.page_ends.Page.{Page}
use Rattle.api_core.specs.declared.page_ends.PageFault.{PageFault}
use Rattle.api_core.specs.declared.seen.Peeked.{Peeked}
use Rattle.form_cache.specs.Forms.{Form, Forms, forms_of}
use Rattle.turn_cell.specs.Turns.{addition}
use Rattle.turn_cell.specs.declared.view.View.{View}
use Rattle.call_texts.specs.Cached.{AreCached, WasSeen}
use Rattle.call_texts.proofs.Caching.{all-cached-on}
use Rattle.shared_api.specs.Answered.{CallsOn}
use Rattle.shared_api.specs.Base.{server_of}
use Rattle.shared_api.specs.inner.PageTurns.{LooksPage}
use Rattle.shared_api.specs.inner.Turning.{Looks, Reads, Writes}
use Rattle.shared_api.specs.declared.cell.CoreBase.{CoreBase}

items-append : (xs ys : List Logged) → items (xs ++ ys) ≡ items xs ++ items ys
items-append [] ys = refl
items-append (x ∷ xs) ys = ap (λ (is : List Item). x.item ∷ is) (items-append xs ys)

-- what was known of the texts at a list is known at one that goes on
pub prefix-cached : (m : Meaning) (boot : ℕ) (fs : List Form) (xs log : List Logged) → IsPrefix xs log → AreCached m boot (items xs) fs → AreCached m boot (items log) fs
prefix-cached m boot fs xs log (more, is) h =
    let joined : AreCached m boot (items (xs ++ more)) fs = subst (λ (l : List Item). AreCached m boot l fs) (sym (items-append xs more)) (all-cached-on m boot (items xs) (items more) fs h) in
    subst (λ (l : List Logged). AreCached m boot (items l) fs) is joined

-- and at the list with what a turn added
added-cached : (m : Meaning) (boot : ℕ) (fs : List Form) (xs log more zs : List Logged) → IsPrefix xs log → zs ≡ log ++ more → AreCached m boot (items xs) fs → AreCached m boot (items zs) fs
added-cached m boot fs xs log more zs first is h =
    prefix-cached m boot fs log zs (more, sym is) (prefix-cached m boot fs xs log first h)

-- of a cache that holds nothing all is known
pub none-cached : (m : Meaning) (boot : ℕ) (log : List Item) (c : Forms) (n : ℕ) → c ≡ forms_of [] n → AreCached m boot log c.forms
none-cached m boot log c n is = subst (λ (x : Forms). AreCached m boot log x.forms) (sym is) tt

pub writes-cached : {B : Type 0} (s : Server) (v z : View B) (log : List Logged) (i : Option Item) (fs : List Form) → Writes s v z log i
    → AreCached s.meaning s.boot (items v.seen) fs → AreCached s.meaning s.boot (items z.seen) fs
writes-cached {B = B} s v z log i fs w h =
    added-cached s.meaning s.boot fs v.seen log (addition v log i) z.seen w.turned.0 (ap (λ (q : View B). q.seen) w.turned.3) h

pub calls-cached : {B : Type 0} (s : Server) (rose : Type 0) (stamp : List ℕ) (v z : View B) (c : Call) (t : Told) (fs : List Form) → CallsOn s rose stamp v z c t
    → AreCached s.meaning s.boot (items v.seen) fs → AreCached s.meaning s.boot (items z.seen) fs
calls-cached {B = B} s rose stamp v z c t fs calls h =
    added-cached s.meaning s.boot fs v.seen calls.log (addition v calls.log calls.item) z.seen calls.turned.0 (ap (λ (q : View B). q.seen) calls.turned.3) h

-- what is known at the list of a look is known afterwards, since it is that list
after-look : {B : Type 0} (s : Server) (v z : View B) (log : List Logged) (fs : List Form) → Reads s v z log → AreCached s.meaning s.boot (items log) fs
    → AreCached s.meaning s.boot (items z.seen) fs
after-look {B = B} s v z log fs reads h =
    let seen : z.seen ≡ log = ap (λ (q : View B). q.seen) reads.turned.3 ∙ append-nil log in
    subst (λ (l : List Logged). AreCached s.meaning s.boot (items l) fs) (sym seen) h

-- ---- a get

pub get-cached : {V : Type 0} (meaning : V → Meaning) (b : CoreBase V) (it : V) (boot : ℕ) (v z : View (CoreBase V)) (k : KeyView) (r : Result Peeked NoMemory) (fs gs : List Form)
    → it ≡ b.versions → boot ≡ b.boot → Looks (server_of meaning b) v z k r
    → ((log : List Item) → IfOk r (λ p. Sees (meaning it) log k p) → AreCached (meaning it) boot log fs → AreCached (meaning it) boot log gs)
    → AreCached (meaning b.versions) b.boot (items v.seen) fs → AreCached (meaning b.versions) b.boot (items z.seen) gs
get-cached {V = V} meaning b it boot v z k r fs gs same booted looked keeps h =
    let here = prefix-cached (meaning b.versions) b.boot fs v.seen looked.log looked.reads.turned.0 h in
    let by_boot = subst (λ (n : ℕ). (log : List Item) → IfOk r (λ p. Sees (meaning it) log k p) → AreCached (meaning it) n log fs → AreCached (meaning it) n log gs) booted keeps in
    let by_it = subst (λ (x : V). (log : List Item) → IfOk r (λ p. Sees (meaning x) log k p) → AreCached (meaning x) b.boot log fs → AreCached (meaning x) b.boot log gs) same by_boot in
    after-look (server_of meaning b) v z looked.log gs looked.reads (by_it (items looked.log) looked.sees here)

-- ---- a list

pub list-cached : {V : Type 0} (meaning : V → Meaning) (b : CoreBase V) (it : V) (boot : ℕ) (v z : View (CoreBase V)) (at : ℕ) (ns : Option (List ℕ)) (limit : ℕ) (token : Option Place)
    (r : Result Page PageFault) (fs gs : List Form)
    → it ≡ b.versions → boot ≡ b.boot → LooksPage (server_of meaning b) v z at ns limit token r
    → ((log : List Item) → IfOk r (λ p. Each (WasSeen (meaning it) log) p.items) → AreCached (meaning it) boot log fs → AreCached (meaning it) boot log gs)
    → AreCached (meaning b.versions) b.boot (items v.seen) fs → AreCached (meaning b.versions) b.boot (items z.seen) gs
list-cached {V = V} meaning b it boot v z at ns limit token r fs gs same booted looked keeps h =
    let here = prefix-cached (meaning b.versions) b.boot fs v.seen looked.log looked.reads.turned.0 h in
    let by_boot = subst (λ (n : ℕ). (log : List Item) → IfOk r (λ p. Each (WasSeen (meaning it) log) p.items) → AreCached (meaning it) n log fs → AreCached (meaning it) n log gs) booted keeps in
    let by_it = subst (λ (x : V). (log : List Item) → IfOk r (λ p. Each (WasSeen (meaning x) log) p.items) → AreCached (meaning x) b.boot log fs → AreCached (meaning x) b.boot log gs) same by_boot in
    after-look (server_of meaning b) v z looked.log gs looked.reads (by_it (items looked.log) looked.was here)
