use Rattle.std.proofs.Common.{◌+◌, refl, sym, subst}
use Rattle.api_calls.specs.Ends.{EndsAsDecided, bound}
use Rattle.api_calls.specs.State.{revision, state}
use Rattle.api_calls.specs.Work.{touch_decision}
use Rattle.api_calls.specs.Writes.{create_commit, mark_commit, replace_commit}
use Rattle.api_core.specs.CoreOf.{StandsFor}
use Rattle.api_core.specs.Ends.{create_end, delete_end, replace_end, turn_end}
use Rattle.core_laws.specs.Asked.{decided, worked, wrote}
use Rattle.core_laws.proofs.Bridges.{fits, next}
use Rattle.core_laws.specs.Known.{IsKnown}
use Rattle.core_laws.proofs.Sizes.{few-claims, few-numbers}
use Rattle.core_laws.proofs.Made.{told_ends, told_turn}
use Rattle.core_laws.proofs.making.make.Goals as goal

pub commit_create-requires-clause-few : goal.commit_create-requires-clause-few
commit_create-requires-clause-few g c = few-numbers (g.V.Versions.meaning c.args.core.now.versions) c.args.core.now.view c.requires.0 c.requires.3 c.requires.5

pub commit_replace-requires-clause-few : goal.commit_replace-requires-clause-few
commit_replace-requires-clause-few g c = few-numbers (g.V.Versions.meaning c.args.core.now.versions) c.args.core.now.view c.requires.0 c.requires.3 c.requires.5

pub commit_delete-requires-clause-few : goal.commit_delete-requires-clause-few
commit_delete-requires-clause-few g c = few-numbers (g.V.Versions.meaning c.args.core.now.versions) c.args.core.now.view c.requires.0 c.requires.3 c.requires.5

pub commit_delete-requires-in-Mark-clause-few : goal.commit_delete-requires-in-Mark-clause-few
commit_delete-requires-in-Mark-clause-few g c = few-numbers (g.V.Versions.meaning c.args.core.now.versions) c.args.core.now.view c.requires.0 c.requires.3 c.requires.5

pub commit_delete-requires-in-Mark-clause-fits : goal.commit_delete-requires-in-Mark-clause-fits
commit_delete-requires-in-Mark-clause-fits g c =
    let k = subst (IsKnown (g.V.Versions.meaning c.args.core.now.versions) c.requires.0 c.requires.1 c.requires.2) c.in-Mark.is c.requires.4 in
    fits (g.V.Versions.meaning c.args.core.now.versions) c.args.core.now.view c.requires.0 c.requires.3 c.in-Mark.key c.in-Mark.expected c.in-Mark.stamped k.3

pub commit_release-requires : goal.commit_release-requires
commit_release-requires g c = few-numbers (g.V.Versions.meaning c.args.core.now.versions) c.args.core.now.view c.requires.0 c.requires.3 c.requires.5

pub set_versions-requires-clause-few : goal.set_versions-requires-clause-few
set_versions-requires-clause-few g c = few-numbers (g.V.Versions.meaning c.args.core.now.versions) c.args.core.now.view c.requires.0 c.requires.3 c.requires.5

pub trim-requires-clause-few : goal.trim-requires-clause-few
trim-requires-clause-few g c = few-numbers (g.V.Versions.meaning c.args.core.now.versions) c.args.core.now.view c.requires.0 c.requires.3 c.requires.5

pub start_migration-requires-clause-few : goal.start_migration-requires-clause-few
start_migration-requires-clause-few g c = few-numbers (g.V.Versions.meaning c.args.core.now.versions) c.args.core.now.view c.requires.0 c.requires.3 c.requires.5

pub migration_turn-end-requires-clause-few : goal.migration_turn-end-requires-clause-few
migration_turn-end-requires-clause-few g c = few-numbers (g.V.Versions.meaning c.args.core.now.versions) c.args.core.now.view c.requires.0 c.requires.3 c.requires.5

pub migration_turn-end-requires-clause-claims : goal.migration_turn-end-requires-clause-claims
migration_turn-end-requires-clause-claims g c = few-claims (g.V.Versions.meaning c.args.core.now.versions) c.args.core.now.view c.requires.0 c.requires.3 c.requires.5

pub migration_turn-end-requires-in-Touch-clause-few : goal.migration_turn-end-requires-in-Touch-clause-few
migration_turn-end-requires-in-Touch-clause-few g c = few-numbers (g.V.Versions.meaning c.args.core.now.versions) c.args.core.now.view c.requires.0 c.requires.3 c.requires.5

pub migration_turn-end-requires-in-Touch-clause-claims : goal.migration_turn-end-requires-in-Touch-clause-claims
migration_turn-end-requires-in-Touch-clause-claims g c = few-claims (g.V.Versions.meaning c.args.core.now.versions) c.args.core.now.view c.requires.0 c.requires.3 c.requires.5

pub migration_turn-end-requires-in-Touch-clause-fits : goal.migration_turn-end-requires-in-Touch-clause-fits
migration_turn-end-requires-in-Touch-clause-fits g c =
    let k = subst (IsKnown (g.V.Versions.meaning c.args.core.now.versions) c.requires.0 c.requires.1 c.requires.2) c.in-Touch.is c.requires.4 in
    fits (g.V.Versions.meaning c.args.core.now.versions) c.args.core.now.view c.requires.0 c.requires.3 c.in-Touch.moved.key c.in-Touch.expected c.in-Touch.moved k.3

pub migration_turn-end-requires-in-Touch-clause-next : goal.migration_turn-end-requires-in-Touch-clause-next
migration_turn-end-requires-in-Touch-clause-next g c =
    let k = subst (IsKnown (g.V.Versions.meaning c.args.core.now.versions) c.requires.0 c.requires.1 c.requires.2) c.in-Touch.is c.requires.4 in
    next (g.V.Versions.meaning c.args.core.now.versions) c.args.core.now.view c.requires.0 c.requires.3 c.in-Touch.claim c.in-Touch.moved.key c.in-Touch.expected k.4

pub returns-in-Create-clause-turn : goal.returns-in-Create-clause-turn
returns-in-Create-clause-turn g c = λ log h stamp st known.
    let k = subst (IsKnown (g.V.Versions.meaning c.args.core.now.versions) log h stamp) c.in-Create.is known in
    subst
    (λ a. EndsAsDecided bound (StandsFor g.V.Versions.meaning c.commit_create.new.self) log
    (decided (g.V.Versions.meaning c.args.core.now.versions) c.args.core.now.view.limits log h stamp a)
    (wrote (create_end c.commit_create.result)))
    (sym c.in-Create.is)
    (told_ends wrote (StandsFor g.V.Versions.meaning c.commit_create.new.self) log
    (create_commit c.args.core.now.view.limits (revision log + 1) (state (g.V.Versions.meaning c.args.core.now.versions) log) c.in-Create.v c.in-Create.new.at c.in-Create.new.key h c.in-Create.new.weight)
    (create_end c.commit_create.result) (c.commit_create.ensures.turn log h st k.1 k.2))

pub returns-in-Replace-clause-turn : goal.returns-in-Replace-clause-turn
returns-in-Replace-clause-turn g c = λ log h stamp st known.
    let k = subst (IsKnown (g.V.Versions.meaning c.args.core.now.versions) log h stamp) c.in-Replace.is known in
    subst
    (λ a. EndsAsDecided bound (StandsFor g.V.Versions.meaning c.commit_replace.new.self) log
    (decided (g.V.Versions.meaning c.args.core.now.versions) c.args.core.now.view.limits log h stamp a)
    (wrote (replace_end c.commit_replace.result)))
    (sym c.in-Replace.is)
    (told_ends wrote (StandsFor g.V.Versions.meaning c.commit_replace.new.self) log
    (replace_commit c.args.core.now.view.limits (revision log + 1) (state (g.V.Versions.meaning c.args.core.now.versions) log) c.in-Replace.v c.in-Replace.new.at c.in-Replace.new.key c.in-Replace.expected h c.in-Replace.new.weight)
    (replace_end c.commit_replace.result) (c.commit_replace.ensures.turn log h st k.1 k.2))

pub returns-in-Mark-clause-turn : goal.returns-in-Mark-clause-turn
returns-in-Mark-clause-turn g c = λ log h stamp st known.
    let k = subst (IsKnown (g.V.Versions.meaning c.args.core.now.versions) log h stamp) c.in-Mark.is known in
    subst
    (λ a. EndsAsDecided bound (StandsFor g.V.Versions.meaning c.commit_delete-in-Mark.new.self) log
    (decided (g.V.Versions.meaning c.args.core.now.versions) c.args.core.now.view.limits log h stamp a)
    (wrote (delete_end c.commit_delete-in-Mark.result)))
    (sym c.in-Mark.is)
    (told_ends wrote (StandsFor g.V.Versions.meaning c.commit_delete-in-Mark.new.self) log
    (mark_commit (revision log + 1) (state (g.V.Versions.meaning c.args.core.now.versions) log) c.in-Mark.v c.in-Mark.stamped.at c.in-Mark.key c.in-Mark.expected stamp)
    (delete_end c.commit_delete-in-Mark.result) (c.commit_delete-in-Mark.ensures.marks c.in-Mark.stamped refl log h stamp st k.1 k.2))

pub returns-in-Touch-clause-turn : goal.returns-in-Touch-clause-turn
returns-in-Touch-clause-turn g c = λ log h stamp st known.
    let k = subst (IsKnown (g.V.Versions.meaning c.args.core.now.versions) log h stamp) c.in-Touch.is known in
    subst
    (λ a. EndsAsDecided bound (StandsFor g.V.Versions.meaning c.migration_turn-end-in-Touch.new.self) log
    (decided (g.V.Versions.meaning c.args.core.now.versions) c.args.core.now.view.limits log h stamp a)
    (worked (turn_end c.migration_turn-end-in-Touch.result) c.migration_turn-end-in-Touch.new.w.claim))
    (sym c.in-Touch.is)
    (told_turn (StandsFor g.V.Versions.meaning c.migration_turn-end-in-Touch.new.self) log
    (touch_decision (revision log + 1) (state (g.V.Versions.meaning c.args.core.now.versions) log) c.in-Touch.claim c.in-Touch.moved.key c.in-Touch.expected c.in-Touch.moved.at)
    (turn_end c.migration_turn-end-in-Touch.result) c.migration_turn-end-in-Touch.new.w.claim
    (c.migration_turn-end-in-Touch.ensures.turn log h st k.1 k.2))
