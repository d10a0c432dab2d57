use Rattle.std.proofs.Common.{◌+◌, map, arith}
use Rattle.crd_reading.specs.Seen.{version_of}
use Rattle.crd_loading.proofs.Others.{before, behind, is_within}
use Rattle.crd_loading.proofs.naming.place_of.Goals as goal

pub overflow_add-result : goal.overflow_add-result
overflow_add-result c =
    let hub = c.args.hub in
    let vs = c.args.versions.now in
    let i = c.args.i in
    omega (arith, is_within hub vs i (i + 1) (behind hub (map version_of vs) i (omega arith)) c.requires)

pub returns-then-i-hub-clause-place : goal.returns-then-i-hub-clause-place
returns-then-i-hub-clause-place c = before c.args.hub (map version_of c.args.versions.now) c.args.i (omega arith)

pub returns-then-i-hub-clause-within : goal.returns-then-i-hub-clause-within
returns-then-i-hub-clause-within c =
    let hub = c.args.hub in
    let vs = c.args.versions.now in
    let i = c.args.i in
    is_within hub vs i i (before hub (map version_of vs) i (omega arith)) c.requires

pub returns-else-i-hub-clause-place : goal.returns-else-i-hub-clause-place
returns-else-i-hub-clause-place c = behind c.args.hub (map version_of c.args.versions.now) c.args.i (omega arith)

pub returns-else-i-hub-clause-within : goal.returns-else-i-hub-clause-within
returns-else-i-hub-clause-within c =
    let hub = c.args.hub in
    let vs = c.args.versions.now in
    let i = c.args.i in
    is_within hub vs i (i + 1) (behind hub (map version_of vs) i (omega arith)) c.requires
