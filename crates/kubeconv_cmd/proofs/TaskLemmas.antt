-- What is known of a document, by steps.
use Rattle.std.proofs.Common.{◌≡◌, ◌≢◌, ◌<◌, ◌≤◌, ◌⊎◌, ℕ, List, length, Result, Ok, Err, inl, inr, sym, subst}
use Rattle.std.specs.Prelude.{IfOk, IfErr}
use Rattle.std.proofs.Math.Logic.{∥∥₁_elim}
use Rattle.kj_value.specs.declared.txt.Txt.{Txt}
use Rattle.crd_meaning.specs.Definition.{Definition, IsLoaded, count_of, version_at}
use Rattle.review_batch.specs.Answer.{IsAnswer, IsNoRequest}
use Rattle.api_calls.specs.Meaning.{Fault}
use Rattle.api_calls.specs.Readings.{IsFaulty}
use Rattle.api_calls.specs.declared.versions.TheConstants.{OBJECT_LEVELS}
use Rattle.command_lines.specs.Lines.{convert, review}
use Rattle.kubeconv_cmd.specs.Tasks.{IsVersionNamed, IsValueOf, KnowsTarget, LacksTarget, unknown, AnswersDocument, RefusesDocument, long_document, faulty as faulty_document, no_review, no_version, too_long, IsWithout, fault_words, not_review}
use Rattle.kubeconv_cmd.specs.inner.Ends.{Asked, OnUnread, Follows, OnHalt, NoValue, NoAnswer, long, faulty, none}
use Rattle.kubeconv_cmd.specs.declared.input.TheConstants.{MOST_INPUT_BYTES}
use Rattle.kubeconv_cmd.specs.declared.input.Unread.{Unread}
use Rattle.kubeconv_cmd.specs.declared.input.Unread.TheVariants as unread
use Rattle.kubeconv_cmd.specs.declared.halt.Halt.{Halt}
use Rattle.kubeconv_cmd.specs.declared.halt.Halt.TheVariants.{ReadFailed, WriteFailed, Input, NoMemory}

-- a contradiction from the mere fact that a definition was loaded
pub from_loaded : (d : Definition) → ∥ IsLoaded d ∥₁ → (IsLoaded d → ⊥) → ⊥
from_loaded d l h = ∥∥₁_elim l (λ x y. absurd x) h

-- ---- reasons that follow from others

pub on_halt : (R S W X : Type 0) (I J : List ℕ → Type 0) (h : Halt) → (R → S) → (W → X) → ((why : List ℕ) → I why → J why)
    → OnHalt (record { reads = R; writes = W; input = I }) h → OnHalt (record { reads = S; writes = X; input = J }) h
on_halt R S W X I J ReadFailed r w i h = r h
on_halt R S W X I J WriteFailed r w i h = w h
on_halt R S W X I J (Input why) r w i h = i _ h
on_halt R S W X I J NoMemory r w i h = tt

pub on_err : {T : Type 0} (R S W X : Type 0) (I J : List ℕ → Type 0) (came : Result T Halt) → (R → S) → (W → X) → ((why : List ℕ) → I why → J why)
    → IfErr came (OnHalt (record { reads = R; writes = W; input = I })) → IfErr came (OnHalt (record { reads = S; writes = X; input = J }))
on_err R S W X I J (Ok t) r w i h = tt
on_err R S W X I J (Err e) r w i h = on_halt R S W X I J e r w i h

-- where the input alone may be refused
pub only_input : (I J : List ℕ → Type 0) (h : Halt) → ((why : List ℕ) → I why → J why)
    → OnHalt (record { reads = ⊥; writes = ⊥; input = I }) h → OnHalt (record { reads = ⊥; writes = ⊥; input = J }) h
only_input I J h i p = on_halt ⊥ ⊥ ⊥ ⊥ I J h (λ x. x) (λ x. x) i p

-- the input isn't had
pub unread_halt : (P Q : Type 0) (I : List ℕ → Type 0) (fault : Unread) (h : Halt) → OnUnread P Q fault → Follows fault h → (Q → I too_long)
    → OnHalt (record { reads = P; writes = ⊥; input = I }) h
unread_halt P Q I unread.Failed h p is f = rw is p
unread_halt P Q I unread.TooLong h q is f =
    on_halt ⊥ P ⊥ ⊥ (λ (why : List ℕ). why ≡ too_long) I h (λ x. absurd x) (λ x. x) (λ why e. subst I (sym e) (f q)) is
unread_halt P Q I unread.NoMemory h p is f = rw is tt

-- ---- a conversion

pub no_value : (d : Definition) (name : List ℕ) (v : ℕ) (b why : List ℕ) → IsVersionNamed d name v → NoValue d v b why → RefusesDocument d b (convert name) why
no_value d name v b why is (long more) = long_document (convert name) more
no_value d name v b why is (faulty f short bad) = faulty_document name v f is short bad

-- of the bytes that were read
pub faulty_at : (d : Definition) (v : ℕ) (bytes b why : List ℕ) → bytes ≡ b → length bytes ≤ MOST_INPUT_BYTES
    → (f : Fault) × IsFaulty bytes OBJECT_LEVELS (IsWithout d v) f × (why ≡ fault_words f) → NoValue d v b why
faulty_at d v bytes b why is short h =
    subst (λ (x : List ℕ). NoValue d v x why) is (subst (λ (x : List ℕ). NoValue d v bytes x) (sym h.2) (faulty h.0 short h.1))

-- there is no version of the name
pub lacks_version : (d : Definition) (name why : List ℕ) → ((v : ℕ) → v < count_of d → (version_at d v).name ≢ name) → why ≡ no_version name → LacksTarget d (convert name) why
lacks_version d name why never is = rw is (unknown name (λ v k. never v k.known k.named))

pub never_known : (d : Definition) (name : List ℕ) → ((v : ℕ) → v < count_of d → (version_at d v).name ≢ name) → KnowsTarget d (convert name) → ⊥
never_known d name never known = never known.0 known.1.known known.1.named

-- a task whose version isn't known comes to no text
pub asked_ok : {T U : Type 0} (known unread : Type 0) (lacks : List ℕ → Type 0) (t : T) (came : Result U Halt) → Asked known unread lacks (Ok t) → Asked known unread lacks came
asked_ok known unread lacks t came (inl k) = inl k
asked_ok known unread lacks t came (inr p) = absurd p.1

pub converts : (result : Result Txt Halt) (d : Definition) (name : List ℕ) (v : ℕ) (b : List ℕ) → IsVersionNamed d name v
    → IfOk result (λ t. (length b ≤ MOST_INPUT_BYTES) × IsValueOf d v b t.bytes) → IfOk result (λ t. AnswersDocument d (convert name) b t.bytes)
converts (Ok t) d name v b is h = (h.0, v, is, h.1)
converts (Err e) d name v b is h = tt

-- ---- a review

pub no_answer : (d : Definition) (b why : List ℕ) → NoAnswer b why → RefusesDocument d b review why
no_answer d b why (long more) = long_document review more
no_answer d b why (none path short bad) = no_review path short bad

-- of the bytes that were read
pub no_review_at : (bytes b why : List ℕ) → bytes ≡ b → length bytes ≤ MOST_INPUT_BYTES → (path : List ℕ) × IsNoRequest bytes path × (why ≡ not_review path) → NoAnswer b why
no_review_at bytes b why is short h =
    subst (λ (x : List ℕ). NoAnswer x why) is (subst (λ (x : List ℕ). NoAnswer bytes x) (sym h.2) (none h.0 short h.1))

pub answers : (result : Result Txt Halt) (d : Definition) (b : List ℕ)
    → IfOk result (λ t. (length b ≤ MOST_INPUT_BYTES) × IsAnswer d b t.bytes) → IfOk result (λ t. AnswersDocument d review b t.bytes)
answers (Ok t) d b h = h
answers (Err e) d b h = tt
