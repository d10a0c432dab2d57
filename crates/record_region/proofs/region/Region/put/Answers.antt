use Rattle.std.proofs.Common.{◌≡◌, length, refl, arith}
use Rattle.std.proofs.lemmas.List.{with_items_is}
use Rattle.record_region.proofs.Regions.{spare_is, free_apart, free_inside, put_done}
use Rattle.record_region.proofs.region.Region.put.Goals as goal

pub returns-then-self-need-clause-full : goal.returns-then-self-need-clause-full
returns-then-self-need-clause-full c =
    let free = spare_is c.self.inside.store.items c.self.inside.links.items c.self.inside.marks.items c.self.inside.head c.self.inside.free c.args.self.now c.self.view_is c.self.invariant in
    (λ _. omega (arith, c.if-self-need.true, c.chunks_of-need.ensures), λ _. refl)

pub returns-then-self-need-clause-numbers : goal.returns-then-self-need-clause-numbers
returns-then-self-need-clause-numbers c =
    let free = spare_is c.self.inside.store.items c.self.inside.links.items c.self.inside.marks.items c.self.inside.head c.self.inside.free c.args.self.now c.self.view_is c.self.invariant in
    let need = c.chunks_of-need.ensures in
    cc

pub fill-self-inside-requires-clause-within : goal.fill-self-inside-requires-clause-within
fill-self-inside-requires-clause-within c = rw c.deref.ensures.value (λ j p. free_inside c.self.inside.store.items c.self.inside.links.items c.self.inside.marks.items c.self.inside.head c.self.inside.free c.self.invariant j (omega (arith, c.if-self-need.false, c.chunks_of-need.ensures)))

pub fill-self-inside-requires-clause-apart : goal.fill-self-inside-requires-clause-apart
fill-self-inside-requires-clause-apart c = rw c.deref.ensures.value (λ i j p q. free_apart c.self.inside.links.items c.self.inside.marks.items c.self.inside.head c.self.inside.free c.self.invariant.apart i j p (omega (arith, c.if-self-need.false, c.chunks_of-need.ensures)))

pub invariant_of-self : goal.invariant_of-self
invariant_of-self c =
    let long : length c.fill-self-inside.new.store ≡ c.self.inside.store.len = omega (arith, c.fill-self-inside.auto.store, c.deref_mut.ensures.len) in
    let same = with_items_is c.self.inside.store c.fill-self-inside.new.store long in
    let end = rw c.deref.ensures.value at c.fill-self-inside.ensures.next in
    let filled = rw c.deref.ensures.value at c.fill-self-inside.ensures.filled in
    let others = rw (c.deref.ensures.value, c.deref_mut.ensures.value) at c.fill-self-inside.ensures.others in
    let d = put_done c.self.inside.store.items _ c.fill-self-inside.new.store c.self.inside.links.items c.self.inside.marks.items c.args.bytes.now c.self.inside.head c.self.inside.free c.args.self.now c.chunks_of-need.result c.fill-self-inside.result c.self.view_is c.self.invariant c.chunks_of-need.ensures c.if-self-need.false same (omega arith) end filled others in
    d.sound

pub returns-clause-full : goal.returns-clause-full
returns-clause-full c =
    let free = spare_is c.self.inside.store.items c.self.inside.links.items c.self.inside.marks.items c.self.inside.head c.self.inside.free c.args.self.now c.self.view_is c.self.invariant in
    (λ e. absurd (cc), λ p. absurd (omega (arith, c.if-self-need.false, c.chunks_of-need.ensures)))

pub returns-clause-within : goal.returns-clause-within
returns-clause-within c =
    let long : length c.fill-self-inside.new.store ≡ c.self.inside.store.len = omega (arith, c.fill-self-inside.auto.store, c.deref_mut.ensures.len) in
    let same = with_items_is c.self.inside.store c.fill-self-inside.new.store long in
    let end = rw c.deref.ensures.value at c.fill-self-inside.ensures.next in
    let filled = rw c.deref.ensures.value at c.fill-self-inside.ensures.filled in
    let others = rw (c.deref.ensures.value, c.deref_mut.ensures.value) at c.fill-self-inside.ensures.others in
    let d = put_done c.self.inside.store.items _ c.fill-self-inside.new.store c.self.inside.links.items c.self.inside.marks.items c.args.bytes.now c.self.inside.head c.self.inside.free c.args.self.now c.chunks_of-need.result c.fill-self-inside.result c.self.view_is c.self.invariant c.chunks_of-need.ensures c.if-self-need.false same (omega arith) end filled others in
    d.within

pub returns-clause-unused : goal.returns-clause-unused
returns-clause-unused c =
    let long : length c.fill-self-inside.new.store ≡ c.self.inside.store.len = omega (arith, c.fill-self-inside.auto.store, c.deref_mut.ensures.len) in
    let same = with_items_is c.self.inside.store c.fill-self-inside.new.store long in
    let end = rw c.deref.ensures.value at c.fill-self-inside.ensures.next in
    let filled = rw c.deref.ensures.value at c.fill-self-inside.ensures.filled in
    let others = rw (c.deref.ensures.value, c.deref_mut.ensures.value) at c.fill-self-inside.ensures.others in
    let d = put_done c.self.inside.store.items _ c.fill-self-inside.new.store c.self.inside.links.items c.self.inside.marks.items c.args.bytes.now c.self.inside.head c.self.inside.free c.args.self.now c.chunks_of-need.result c.fill-self-inside.result c.self.view_is c.self.invariant c.chunks_of-need.ensures c.if-self-need.false same (omega arith) end filled others in
    d.unused

pub returns-clause-put : goal.returns-clause-put
returns-clause-put c =
    let long : length c.fill-self-inside.new.store ≡ c.self.inside.store.len = omega (arith, c.fill-self-inside.auto.store, c.deref_mut.ensures.len) in
    let same = with_items_is c.self.inside.store c.fill-self-inside.new.store long in
    let end = rw c.deref.ensures.value at c.fill-self-inside.ensures.next in
    let filled = rw c.deref.ensures.value at c.fill-self-inside.ensures.filled in
    let others = rw (c.deref.ensures.value, c.deref_mut.ensures.value) at c.fill-self-inside.ensures.others in
    let d = put_done c.self.inside.store.items _ c.fill-self-inside.new.store c.self.inside.links.items c.self.inside.marks.items c.args.bytes.now c.self.inside.head c.self.inside.free c.args.self.now c.chunks_of-need.result c.fill-self-inside.result c.self.view_is c.self.invariant c.chunks_of-need.ensures c.if-self-need.false same (omega arith) end filled others in
    d.places
