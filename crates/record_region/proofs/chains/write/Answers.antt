use Rattle.std.proofs.Common.{refl, arith}
use Rattle.record_region.proofs.Stores.{take-written, chunk_at-other}
use Rattle.record_region.proofs.chains.write.Goals as goal

pub returns-clause-written : goal.returns-clause-written
returns-clause-written c = take-written c.args.store.now c.copy_from_slice.new.self c.args.part.now _ _ c.args.chunk refl (omega arith) c.copy_from_slice.ensures.after c.requires.within c.requires.fits

pub returns-clause-others : goal.returns-clause-others
returns-clause-others c = λ other apart. chunk_at-other c.args.store.now c.copy_from_slice.new.self c.args.part.now _ _ c.args.chunk other refl (omega arith) c.copy_from_slice.ensures.after c.requires.within c.requires.fits apart
