use Rattle.hook_versions.proofs.set.HookSetVersions.admit.Goals as goal

pub admitted-requires-clause-known : goal.admitted-requires-clause-known
admitted-requires-clause-known g c = c.requires.known.known

pub admitted-requires-clause-ns : goal.admitted-requires-clause-ns
admitted-requires-clause-ns g c = c.requires.known.ns
