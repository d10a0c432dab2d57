-- The laws of a definition whose objects a converter turns, from facts that are propositions each.
use Rattle.std.proofs.Common.{IsTrue}
use Rattle.std.proofs.Math.Logic.{∥∥₁_elim}
use Rattle.api_calls.specs.Versions.{AreFlags, Stand, IgnoresStamps, IsOneToOne, KeepsFinalizers, KeepsKey, NamesDiffer, AdmitsWhole, DecidesAdmission, RefusesOnce, RefusesUnread}
use Rattle.keep_laws.specs.Given.{OneList}
use Rattle.crd_meaning.specs.Definition.{count_of, opening_of}
use Rattle.crd_meaning.specs.Meant.{Settings}
use Rattle.crd_laws.specs.Known.{given}
use Rattle.crd_laws.specs.Faults.{Fault-set}
use Rattle.crd_laws.specs.Hook.{Hooked, IsHooked, HaveSoundDefaults, hook_meaning}
use Rattle.crd_laws.proofs.Standing as standing
use Rattle.crd_laws.proofs.Forms as forms
use Rattle.crd_laws.proofs.Verdicts as verdicts
use Rattle.crd_laws.proofs.Admitted as admission
use Rattle.crd_laws.proofs.Causes.{one_reason}

module _ (k : Hooked) (o : Settings) where
  pub opens : IsHooked k → AreFlags (count_of k.definition) (opening_of k.definition)
  opens is = standing.opens k o is

  pub names : IsHooked k → NamesDiffer (hook_meaning k o)
  names is = standing.names k o is

  pub stand : IsHooked k → Stand (hook_meaning k o)
  stand is = standing.stand k o is

  pub same_key : KeepsKey (hook_meaning k o)
  same_key = standing.same_key k o

  pub finalizers : KeepsFinalizers (hook_meaning k o)
  finalizers = standing.finalizers k o

  pub unstamped : IsHooked k → IgnoresStamps (hook_meaning k o)
  unstamped is = standing.unstamped k o is

  pub one_to_one : IsHooked k → IsTrue k.honest → IsOneToOne (hook_meaning k o)
  one_to_one is honest = forms.one_to_one k o is honest

  pub admits_whole : AdmitsWhole (hook_meaning k o)
  admits_whole = admission.admits_whole k o

  pub unread : RefusesUnread (hook_meaning k o)
  unread = verdicts.refuses_unread k o

  pub decides : OneList → IsTrue k.honest → DecidesAdmission (hook_meaning k o)
  decides one honest = record {
    one = λ r g h d e a b. verdicts.one (given one) k honest r g h d e a b;
    excludes = λ r h e f a n. verdicts.excludes (given one) k honest r h e f a n;
  }

  -- that two faults are one is a proposition, so that the mere fact that the defaults are JSON values gives it
  pub refuses_once : OneList → ∥ HaveSoundDefaults k ∥₁ → IsTrue k.honest → RefusesOnce (hook_meaning k o)
  refuses_once one sound honest = record {
    one_fault = λ r f g a b. ∥∥₁_elim sound (Fault-set f g) (λ s. one_reason (given one) k s honest r f g a b);
  }
