-- One exchange, and what came of it.
use Rattle.std.proofs.Common.{◌≡◌, ◌∙◌, ℕ, ◌+◌, List, [], ◌∷◌, Option, Some, None, Result, Ok, Err, codes, ap, subst, inr}
use Rattle.std.specs.Prelude.{IfOk, IfErr}
use Rattle.kj_value.specs.Json.{Json}
use Rattle.kj_value.specs.Seen.{json}
use Rattle.kj_value.specs.declared.value.JVal.{JVal}
use Rattle.edge_io.specs.Exchanges.{Exchange, one_more, after_exchange, OnBroken}
use Rattle.edge_io.specs.declared.link.LinkFault.{LinkFault}
use Rattle.edge_io.specs.declared.link.LinkFault.TheVariants as link
use Rattle.http_wire.specs.Requesting.{asks_for}
use Rattle.review_forms.specs.Response.{Asked}
use Rattle.converters.specs.declared.converter.TurnFault.{TurnFault}
use Rattle.converters.specs.declared.converter.TurnFault.TheVariants as fault
use Rattle.link_converter.specs.Asking.{ConverterState, uid_of, asked_of, review_of, question, HasAsked, WasAnswered, TakesBody, IsLeft, Takes, WasNotTaken}

-- what was asked in the words of the call is what is asked next
pub asked_is : (before : ConverterState) (j : Json) (to uid : List ℕ) (n : ℕ) (sent : List Json) → n ≡ before.asked + 1 → uid ≡ uid_of n → sent ≡ j ∷ []
    → record { uid = uid; desired = to; sent = sent } ≡ asked_of (before.asked + 1) j to
asked_is before j to uid n sent number is one =
    ap (λ (u : List ℕ). record { uid = u; desired = to; sent = sent }) (is ∙ ap uid_of number)
    ∙ ap (λ (s : List Json). record { uid = uid_of (before.asked + 1); desired = to; sent = s }) one

pub has_asked : (before now : ConverterState) (j : Json) (to target : List ℕ) (old : Option (List Exchange)) (answer : Option (List ℕ)) (n : ℕ) (asked : Asked)
    → old ≡ before.exchanges → target ≡ before.target → n ≡ before.asked + 1 → asked ≡ asked_of (before.asked + 1) j to → now.asked ≡ n
    → now.exchanges ≡ one_more old (asks_for (codes "POST") target (review_of asked)) answer → HasAsked before now j to answer
unfolding question
has_asked before now j to target old answer n asked same at number is number_now made = (
  made
      ∙ ap (λ (es : Option (List Exchange)). one_more es (asks_for (codes "POST") target (review_of asked)) answer) same
      ∙ ap (λ (t : List ℕ). one_more before.exchanges (asks_for (codes "POST") t (review_of asked)) answer) at
      ∙ ap (λ (a : Asked). one_more before.exchanges (asks_for (codes "POST") before.target (review_of a)) answer) is,
  number_now ∙ number,
)

pub was_taken : (before now : ConverterState) (j : Json) (to bytes : List ℕ) (asked : Asked) (r : Result JVal TurnFault) → HasAsked before now j to (Some bytes)
    → asked ≡ asked_of (before.asked + 1) j to → IfOk r (λ y. TakesBody asked (json y) bytes) → IfOk r (λ y. WasAnswered before now j to (Takes before j to (json y)))
was_taken before now j to bytes asked (Ok y) made is t = (bytes, made, subst (λ (a : Asked). TakesBody a (json y) bytes) is t)
was_taken before now j to bytes asked (Err f) made is t = tt

pub was_not_taken : (before now : ConverterState) (j : Json) (to bytes : List ℕ) (asked : Asked) (rose : Type 0) (r : Result JVal TurnFault) → HasAsked before now j to (Some bytes)
    → asked ≡ asked_of (before.asked + 1) j to → IfErr r (IsLeft asked bytes) → IfErr r (WasNotTaken before now j to rose)
was_not_taken before now j to bytes asked rose (Ok y) made is t = tt
was_not_taken before now j to bytes asked rose (Err (fault.Refused message)) made is t = (bytes, made, subst (λ (a : Asked). IsLeft a bytes (fault.Refused message)) is t)
was_not_taken before now j to bytes asked rose (Err fault.Failed) made is t = inr (bytes, made, subst (λ (a : Asked). IsLeft a bytes fault.Failed) is t)
was_not_taken before now j to bytes asked rose (Err fault.NoMemory) made is t = inr (bytes, made, tt)

-- ---- an exchange that failed

pub broke : (new old : Option (List Exchange)) (request : List ℕ) (f : LinkFault) → f ≡ link.Failed → new ≡ after_exchange old request (Err f) → new ≡ one_more old request None
broke new old request f is e = subst (λ (g : LinkFault). new ≡ after_exchange old request (Err g)) is e

pub broken : (P : Type 0) (f : LinkFault) → f ≡ link.Failed → OnBroken f P → P
broken P f is h = subst (λ (g : LinkFault). OnBroken g P) is h
