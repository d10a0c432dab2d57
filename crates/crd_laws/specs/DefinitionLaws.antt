-- The laws of a definition, from facts that are propositions each.
use Rattle.std.proofs.Common.{ℕ, ◌≤◌, Option}
use Rattle.std.proofs.Math.Logic.{∥∥₁_elim}
use Rattle.std.specs.Coded.{×_prop, le_prop}
use Rattle.kube_meta.specs.View.{ObjectView}
use Rattle.api_calls.specs.Meaning.{Request, Weighs}
use Rattle.api_calls.specs.Versions.{AreFlags, StandsAt, Stand, IgnoresStamps, IsOneToOne, KeepsFinalizers, KeepsKey, NamesDiffer, IsAdmitted, AdmitsWhole, DecidesAdmission, DecidesEach, RefusesOnce, RefusesUnread}
use Rattle.crd_reading.specs.Accepted.{AreOffered}
use Rattle.keep_laws.specs.Given.{OneList}
use Rattle.crd_meaning.specs.Definition.{Definition, count_of, opening_of, IsLoaded}
use Rattle.crd_meaning.specs.Meant.{Settings, meaning_of, meant}
use Rattle.crd_meaning.proofs.Places as places
use Rattle.crd_meaning.proofs.Forms.{one_form, only_hub}
use Rattle.crd_meaning.proofs.Made.{has_form}
use Rattle.crd_meaning.proofs.Verdicts as verdicts
use Rattle.crd_meaning.proofs.Causes.{one_reason}
use Rattle.crd_laws.specs.Loaded.{loaded_meaning}
use Rattle.crd_laws.specs.Known.{laws, given}
use Rattle.crd_laws.specs.Opening.{opening_flags, names_apart}
use Rattle.crd_laws.specs.Faults.{Fault-set}

module _ (d : Definition) where
  pub few : ∥ IsLoaded d ∥₁ → (2 ≤ count_of d) × (count_of d ≤ 8)
  few loaded = ∥∥₁_elim loaded (×_prop le_prop le_prop) (λ l. l.few)

  pub opens : ∥ IsLoaded d ∥₁ → AreOffered d.view.versions → AreFlags (count_of d) (opening_of d)
  opens loaded offered = opening_flags d offered (few loaded).1

module _ (d : Definition) (o : Settings) where
  -- what is said of an object at a version doesn't look at what is whole or admitted
  stands_so : (v : ℕ) (x : ObjectView) → StandsAt (meaning_of d o) v x → StandsAt (loaded_meaning d o) v x
  stands_so v x s = record {
    api_version = s.api_version;
    kind = s.kind;
    rules = s.rules;
    no_number = s.no_number;
    no_uid = s.no_uid;
    stamps = s.stamps;
    body = s.body;
    sound = s.sound;
    levels = s.levels;
  }

  pub stand : OneList → ∥ IsLoaded d ∥₁ → Stand (loaded_meaning d o)
  stand one loaded = record {
    hub = ∥∥₁_elim loaded le_prop (λ l. l.hub);
    whole = λ h w. stands_so d.hub h ((places.stand (given one) o d w.0).whole h w.1);
    pair = λ v h x known w p. stands_so v x ((places.stand (given one) o d w.0).pair v h x known w.1 p);
  }

  pub names : AreOffered d.view.versions → NamesDiffer (loaded_meaning d o)
  names offered = record { differ = names_apart d offered }

  pub same_key : KeepsKey (loaded_meaning d o)
  same_key = record {
    name = λ v h x known w p. (places.same_key o d).name v h x known w.1 p;
    namespace = λ v h x known w p. (places.same_key o d).namespace v h x known w.1 p;
  }

  pub finalizers : KeepsFinalizers (loaded_meaning d o)
  finalizers = record { same = λ v h x known w p. (places.finalizers o d).same v h x known w.1 p }

  pub unstamped : IgnoresStamps (loaded_meaning d o)
  unstamped = record {
    whole = λ h created deleted generation s w. (w.0, (places.unstamped o d).whole h created deleted generation s w.1);
    pair = λ v h x created deleted generation p. (places.unstamped o d).pair v h x created deleted generation p;
  }

  pub one_to_one : OneList → IsOneToOne (loaded_meaning d o)
  one_to_one one = record {
    total = λ v h known w. has_form (laws one) d w.0 v h known w.1;
    function = λ v h x y known w p q. one_form (given one) d w.0 v h x y w.1 p q;
    injective = λ v g h x known wg wh p q. only_hub (given one) d wg.0 v g h x wg.1 wh.1 p q;
  }

  admitted_so : (r : Request) (h : ObjectView) (e : Option ℕ) → IsLoaded d → IsAdmitted (meaning_of d o) r h e → IsAdmitted (loaded_meaning d o) r h e
  admitted_so r h e l a = record {
    namespace = a.namespace;
    name = a.name;
    expected = a.expected;
    whole = (l, a.whole);
    created = a.created;
    deleted = a.deleted;
    generation = a.generation;
  }

  pub admits_whole : OneList → AdmitsWhole (loaded_meaning d o)
  admits_whole one = record { admitted = λ r h e a. admitted_so r h e a.0 (verdicts.admitted (given one) o d a.0 r h e a.1) }

  pub unread : RefusesUnread (loaded_meaning d o)
  unread =
      let u = verdicts.unread o d in
      record { not_json = u.not_json; too_deep = u.too_deep; not_whole = u.not_whole; not_object = u.not_object }

  pub decides : OneList → DecidesAdmission (loaded_meaning d o)
  decides one = record {
    one = λ r g h e f a b. (verdicts.decides (given one) o d a.0).one r g h e f a.1 b.1;
    excludes = λ r h e f a n. (verdicts.decides (given one) o d a.0).excludes r h e f a.1 n;
  }

  pub decides_each : OneList → ∥ IsLoaded d ∥₁ → DecidesEach (loaded_meaning d o)
  decides_each one loaded = record {
    complete = λ r is never_admitted never_refused.
        ∥∥₁_elim loaded (λ x y. absurd x)
        (λ l. (verdicts.decides_each (given one) o d l).complete r (record { known = is.known; ns = is.ns }) (λ h e a. never_admitted h e (l, a)) never_refused);
  }

  -- that two faults are one is a proposition, so that the mere fact that the definition was loaded gives it
  pub refuses_once : OneList → ∥ IsLoaded d ∥₁ → RefusesOnce (loaded_meaning d o)
  refuses_once one loaded = record {
    one_fault = λ r f g a b. ∥∥₁_elim loaded (Fault-set f g) (λ l. one_reason (given one) d l r f g a b);
  }

  -- a weight doesn't look at the settings, nor at what is whole or admitted
  pub weighs_so : (h : ObjectView) (w : ℕ) → Weighs (meant d) h w → Weighs (loaded_meaning d o) h w
  weighs_so h w m = record { within = m.within; met = m.met }
