-- One call of add.
use Rattle.std.proofs.Common.{ℕ, ◌≡◌, ◌≤◌, ◌<◌, ◌+◌, Bool, true, false, nat_lt, List, [], ◌∷◌, ◌++◌, length, if◌then◌else◌, refl, ap, sym, ◌∙◌, subst, arith, append_assoc}
use Rattle.std.proofs.Common.{Result, Ok, Err, IfOk}
use Rattle.std.proofs.lemmas.Bool.Decides.{nat_tests}
use Rattle.std.proofs.lemmas.List.{append-nil}
use Rattle.api_calls.specs.Item.{Logged, items_of}
use Rattle.test_serving.specs.declared.counter.AddEnd.TheVariants.{Done, Full}
use Rattle.test_serving.specs.Counts.{adding, amount, amounts, total_of, Guard, IsLegalAfter, IsLegal, reply_at}

total_snoc : (xs : List Logged) (i : Logged) → total_of (xs ++ i ∷ []) ≡ total_of xs + amount i.item
total_snoc [] i = omega arith
total_snoc (j ∷ js) i = let h = total_snoc js i in omega arith

amounts_snoc : (xs : List Logged) (i : Logged) → amounts (xs ++ i ∷ []) ≡ amounts xs ++ amount i.item ∷ []
amounts_snoc [] i = refl
amounts_snoc (j ∷ js) i = ap (λ (ns : List ℕ). amount j.item ∷ ns) (amounts_snoc js i)

legal_snoc : (limit : ℕ) (before xs : List Logged) (i : Logged) → IsLegalAfter limit before xs → Guard limit (before ++ xs) i → IsLegalAfter limit before (xs ++ i ∷ [])
legal_snoc limit before [] i legal may = (subst (λ (log : List Logged). Guard limit log i) (append-nil before) may, tt)
legal_snoc limit before (j ∷ js) i legal may = (
  legal.0,
  legal_snoc limit (before ++ j ∷ []) js i legal.1 (subst (λ (log : List Logged). Guard limit log i) (sym (append_assoc before (j ∷ []) js)) may),
)

-- the core, where x has room: with the item it stands for the list with the item
pub core_adds : (limit total x : ℕ) (after : List ℕ) (log : List Logged) → total ≡ total_of log → after ≡ amounts log ++ x ∷ [] → IsLegal limit log → total + x ≤ limit
    → ((i : Logged) → i.item ≡ adding x → i.nth ≡ length (items_of i.by log)
    → (total + x ≡ total_of (log ++ i ∷ [])) × (after ≡ amounts (log ++ i ∷ [])) × IsLegal limit (log ++ i ∷ []))
    × (Done (total + x) ≡ reply_at limit log x)
core_adds limit total x after log is are legal room = (
  (λ i says counted.
      let added : amount i.item ≡ x = ap amount says in
      let now = total_snoc log i in (
        (let sum : total + x ≡ total_of (log ++ i ∷ []) = omega arith in sum),
        are ∙ (ap (λ (n : ℕ). amounts log ++ n ∷ []) (sym added) ∙ sym (amounts_snoc log i)),
        legal_snoc limit [] log i legal ((let fits : total_of log + amount i.item ≤ limit = omega arith in fits), counted),
      )),
  go (nat_lt limit (total_of log + x)) refl,
)
  where
    go : (b : Bool) → nat_lt limit (total_of log + x) ≡ b → Done (total + x) ≡ (if b then Full else Done (total_of log + x))
    go true e = let l : limit < total_of log + x = grind (arith, nat_tests) in absurd (omega arith)
    go false e = ap (λ (t : ℕ). Done (t + x)) is

-- the core, where x has no room
pub core_full : (limit total x : ℕ) (log : List Logged) → total ≡ total_of log → limit < total + x → Full ≡ reply_at limit log x
core_full limit total x log is more = go (nat_lt limit (total_of log + x)) refl
  where
    go : (b : Bool) → nat_lt limit (total_of log + x) ≡ b → Full ≡ (if b then Full else Done (total_of log + x))
    go true e = refl
    go false e = let l : total_of log + x ≤ limit = grind (arith, nat_tests) in absurd (omega arith)

-- what an answer says, it says for less too
pub ok_gives : {A E : Type 0} (r : Result A E) (P Q : A → Type 0) → IfOk r P → ((x : A) → P x → Q x) → IfOk r Q
ok_gives (Ok x) P Q p less = less x p
ok_gives (Err e) P Q p less = tt
