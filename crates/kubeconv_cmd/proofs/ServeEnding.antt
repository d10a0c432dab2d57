-- Connections that were answered beside each other.
use Rattle.std.proofs.Common.{◌≡◌, ◌⊎◌, ◌<◌, ◌≤◌, ℕ, List, Option, Some, Result, Ok, Err, inl, inr, refl, sym, subst, ap, arith}
use Rattle.std.specs.Prelude.{IfErr, OnOk, IfSome}
use Rattle.kube_meta.specs.declared.limits.Limits.{Limits}
use Rattle.kube_meta.specs.declared.limits.TheConstants.Limits.{STANDING}
use Rattle.api_calls.specs.Legal.{IsLegal}
use Rattle.api_calls.specs.Meaning.{Meaning}
use Rattle.edge_io.specs.Causes.{Rose}
use Rattle.edge_io.specs.Connections.{Origin, Ending}
use Rattle.turn_cell.specs.Views.{opening_view, numbers_of}
use Rattle.turn_cell.specs.declared.view.View.{View}
use Rattle.shared_api.specs.declared.cell.CoreBase.{CoreBase}
use Rattle.serve_spans.specs.Served.{ServedAll}
use Rattle.serve_spans.specs.Spans.{AllServed}
use Rattle.serve_many.specs.Answered.{IsAnswered, Sides, front_of}
use Rattle.serve_many.specs.Ends.{EndsAt, ServeBlames, UnlessNoMemory}
use Rattle.serve_many.specs.declared.serving.ServeEnd.{ServeEnd}
use Rattle.serve_many.specs.declared.serving.ServeEnd.TheVariants.{Done, EarsFault, NoMemory as NoMemoryEnd}
use Rattle.serve_input.specs.Conversed.{Start}
use Rattle.command_lines.specs.Lines.{Source, Listening}
use Rattle.kubeconv_cmd.specs.Sources.{Loaded, Means, faults_in, meaning_in}
use Rattle.kubeconv_cmd.specs.Serving.{AnsweredAll, Hearing, IsUnheard, Service, unheard, untold, wanting_service}
use Rattle.kubeconv_cmd.specs.inner.Ends.{Serves, met_of, service_status}
use Rattle.kubeconv_cmd.specs.declared.stop.Unmet.{Unmet}
use Rattle.output_lines.specs.Listening.{OnUnheard, OnUntold, Silent, Told, ToldSome}
use Rattle.output_lines.specs.declared.listening.Unserved.{Unserved}
use Rattle.output_lines.specs.declared.listening.Unserved.TheVariants.{NotListening, WriteFailed, NoMemory}
use Rattle.serve_input.proofs.Opened.{first_alone}

-- ---- one list

-- What a server's first pass has seen at the end tells what all connections were answered, if that pass had seen nothing.
answered_from : {V A I O : Type 0} (faults : A → ℕ) (k : Sides I O) (meaning : V → Meaning) (base : CoreBase V) (start : Start) (v : View (CoreBase V)) (asked idle count : ℕ)
    (h0 handed : Option (List Origin)) (g0 given : Option (List Ending))
    → base.limits ≡ STANDING → base.boot ≡ start.boot → IsLegal (meaning base.versions) base.limits v.seen
    → ServedAll (IsAnswered faults k (front_of meaning base start.told)) asked idle (opening_view base) v count h0 handed g0 given
    → AnsweredAll faults k (meaning base.versions) start asked count h0 handed g0 given
answered_from {V} faults k meaning base start v asked idle count h0 handed g0 given limits boot legal all = record {
  log = v.seen;
  legal = subst (λ (l : Limits). IsLegal (meaning base.versions) l v.seen) limits legal;
  origins = all.origins;
  endings = all.endings;
  spans = all.spans;
  handed_out = all.handed_out;
  given_back = all.given_back;
  counted = all.counted;
  each = all.each;
  served = subst (λ (l : Limits). AllServed (IsAnswered faults k (record { server = record { meaning = meaning base.versions; limits = l; boot = start.boot }; told = start.told })) v.seen all.endings all.spans) limits
      (subst (λ (b : ℕ). AllServed (IsAnswered faults k (record { server = record { meaning = meaning base.versions; limits = base.limits; boot = b }; told = start.told })) v.seen all.endings all.spans) boot all.served);
  apart = all.apart;
  passes = numbers_of v;
  idle = idle;
  workers = all.workers;
  are_workers = all.are_workers;
  hired = all.hired;
  spared = all.spared;
  few = all.few;
  all = all.all;
  owned = λ i x at. (all.alone (first_alone base (opening_view base) refl)).1 i x at (omega arith);
}

-- a base with the limits of a server that stands
pub standing_base : {V : Type 0} (base : CoreBase V) → base.limits ≡ STANDING → base ≡ record { versions = base.versions; limits = STANDING; boot = base.boot }
standing_base base is = ap (λ (l : Limits). record { versions = base.versions; limits = l; boot = base.boot }) is

pub answered_all : {V A I O : Type 0} (faults : A → ℕ) (k : Sides I O) (meaning : V → Meaning) (base : CoreBase V) (versions : V) (start : Start) (v0 v : View (CoreBase V)) (asked idle count : ℕ)
    (h0 heard handed : Option (List Origin)) (g0 taken given : Option (List Ending))
    → base ≡ record { versions = versions; limits = STANDING; boot = start.boot } → v0 ≡ opening_view base → heard ≡ h0 → taken ≡ g0
    → IsLegal (meaning base.versions) base.limits v.seen
    → ServedAll (IsAnswered faults k (front_of meaning base start.told)) asked idle v0 v count heard handed taken given
    → AnsweredAll faults k (meaning versions) start asked count h0 handed g0 given
answered_all {V} faults k meaning base versions start v0 v asked idle count h0 heard handed g0 taken given is new same_heard same_taken legal all =
    subst (λ (c : CoreBase V). AnsweredAll faults k (meaning c.versions) start asked count h0 handed g0 given) is
    (answered_from faults k meaning base start v asked idle count h0 handed g0 given (ap (λ (c : CoreBase V). c.limits) is) (ap (λ (c : CoreBase V). c.boot) is) legal
    (subst (λ (h : Option (List Origin)). ServedAll (IsAnswered faults k (front_of meaning base start.told)) asked idle (opening_view base) v count h handed g0 given) same_heard
    (subst (λ (g : Option (List Ending)). ServedAll (IsAnswered faults k (front_of meaning base start.told)) asked idle (opening_view base) v count heard handed g given) same_taken
    (subst (λ (w : View (CoreBase V)). ServedAll (IsAnswered faults k (front_of meaning base start.told)) asked idle w v count heard handed taken given) new all))))

-- as many workers were asked for
pub hired_as : {A I O : Type 0} (faults : A → ℕ) (k : Sides I O) (m : Meaning) (start : Start) (a b count : ℕ) (h0 handed : Option (List Origin)) (g0 given : Option (List Ending)) → a ≡ b
    → AnsweredAll faults k m start a count h0 handed g0 given → AnsweredAll faults k m start b count h0 handed g0 given
hired_as faults k m start a b count h0 handed g0 given same all = subst (λ (n : ℕ). AnsweredAll faults k m start n count h0 handed g0 given) same all

-- a server of the base is one of the versions that it has
pub service_as : {A V I O : Type 0} (faults : A → ℕ) (k : Sides I O) (meaning : V → Meaning) (b c : CoreBase V) (told : Option (List ℕ)) (l : Listening) (h : Hearing) (s : ℕ) → b ≡ c
    → Service faults k (meaning b.versions) (record { boot = b.boot; told = told }) l h s → Service faults k (meaning c.versions) (record { boot = c.boot; told = told }) l h s
service_as {A} {V} faults k meaning b c told l h s same is = subst (λ (x : CoreBase V). Service faults k (meaning x.versions) (record { boot = x.boot; told = told }) l h s) same is

-- ---- how serving ended

-- as many as were asked for, or fewer since a fault rose
pub served_done : (end : ServeEnd) (number connections : Option ℕ) (R P : ℕ → Type 0) → end ≡ Done
    → UnlessNoMemory end ((n : ℕ) → number ≡ Some n → (count : ℕ) × EndsAt end connections count × R count × P count)
    → (n : ℕ) → number ≡ Some n → (count : ℕ) × (connections ≡ Some count) × R count × P count
served_done end number connections R P is h =
    subst (λ (e : ServeEnd). UnlessNoMemory e ((n : ℕ) → number ≡ Some n → (count : ℕ) × EndsAt e connections count × R count × P count)) is h

pub served_fewer : (end : ServeEnd) (number connections : Option ℕ) (R P : ℕ → Type 0) → end ≡ EarsFault
    → UnlessNoMemory end ((n : ℕ) → number ≡ Some n → (count : ℕ) × EndsAt end connections count × R count × P count)
    → (n : ℕ) → number ≡ Some n → (count : ℕ) × IfSome connections (λ k. count < k) × R count × P count
served_fewer end number connections R P is h =
    subst (λ (e : ServeEnd). UnlessNoMemory e ((n : ℕ) → number ≡ Some n → (count : ℕ) × EndsAt e connections count × R count × P count)) is h

pub fault_rose : (end : ServeEnd) (rose same : Type 0) → end ≡ EarsFault → ServeBlames end rose same → rose
fault_rose end rose same is h = subst (λ (e : ServeEnd). ServeBlames e rose same) is h

pub all_stays : (end : ServeEnd) (rose same : Type 0) → end ≡ NoMemoryEnd → ServeBlames end rose same → same
all_stays end rose same is h = subst (λ (e : ServeEnd). ServeBlames e rose same) is h

-- nobody came, as it wasn't told where, or can't be
pub unserved_so : {A I O : Type 0} (faults : A → ℕ) (k : Sides I O) (m : Meaning) (start : Start) (l : Listening) (h : Hearing) (why : Unserved)
    → Silent (h.written ≡ h.written_before) (ToldSome h.written_before h.written) (Told h.written_before h.written) why → OnUnheard (Rose h.faults_before h.faults) why
    → OnUntold (Rose h.output_faults_before h.output_faults) why → IsUnheard h → Service faults k m start l h (service_status (Err why))
unserved_so faults k m start l h NotListening silent fails broke nobody = unheard refl fails silent nobody
unserved_so faults k m start l h WriteFailed silent fails broke nobody = untold refl broke silent nobody
unserved_so faults k m start l h NoMemory silent fails broke nobody = wanting_service refl silent nobody

-- the line of a definition that was loaded is served so
pub met_so : {I O : Type 0} (k : Sides I O) (file : List ℕ → Option (List ℕ)) (source : Source) (start : Start) (l : Listening) (h : Hearing) (fails untouched silent : Type 0) (m : Loaded) (came : Result Unit Unserved) (all : Result Unit Unmet)
    → all ≡ met_of came → Means file source m → Service (faults_in m) k (meaning_in m) start l h (service_status came) → Serves k file source start l h fails untouched silent all
met_so k file source start l h fails untouched silent m (Ok u) all same means is =
    subst (λ (r : Result Unit Unmet). Serves k file source start l h fails untouched silent r) (sym same) (m, means, is)
met_so k file source start l h fails untouched silent m (Err why) all same means is =
    subst (λ (r : Result Unit Unmet). Serves k file source start l h fails untouched silent r) (sym same) (m, means, is)
