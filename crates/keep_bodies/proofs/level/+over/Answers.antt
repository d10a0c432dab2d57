use Rattle.std.proofs.Common.{◌≡◌, [], ◌∷◌, ◌++◌, ◌+◌, List, Option, map, drop, refl, ap, sym, subst, ◌∙◌, rules, arith}
use Rattle.std.specs.Prelude.{OnOk}
use Rattle.std.proofs.lemmas.List.{append-nil, drop_all}
use Rattle.kj_value.specs.Json.{object, members_of}
use Rattle.kj_value.specs.Fields.{Pairs, field, with_field}
use Rattle.kept_entries.specs.declared.entry.Entry.{Entry}
use Rattle.hub_cells.specs.Side.{Side, other}
use Rattle.hub_cells.specs.Level.{Name, Inners, named}
use Rattle.hub_cells.specs.laws.Inside.{inner_depth}
use Rattle.hub_cells.specs.Seen.{side, cell}
use Rattle.hub_cells.specs.SeenFit.{inners_of}
use Rattle.hub_cells.specs.declared.fitted.Inner.{Inner}
use Rattle.keep_laws.specs.Entry.{put, inside, under}
use Rattle.keep_laws.specs.Body.{object_in, as_field, body, all_entries, with_inside}
use Rattle.keep_laws.specs.Marked.{there}
use Rattle.keep_bodies.specs.inner.Left.{entries_left}
use Rattle.keep_bodies.specs.inner.Turned.{turned}
use Rattle.keep_bodies.specs.inner.Over.{marks_over, cell_fields, cell_kept, inner_marks, inner_fields, inner_kept}
use Rattle.keep_bodies.proofs.Objects.{object_allowed, renamed_allowed, inners_from, first_inner, inside_append}
use Rattle.keep_bodies.proofs.Levels.{level_fields, level_entries, cells_allowed, inners_allowed, depth_is}
use Rattle.keep_bodies.proofs.Standing.{inside_is_order}
use Rattle.keep_bodies.proofs.level.+over.Goals as goal

pub inner_over-object_over-requires : goal.inner_over-object_over-requires
inner_over-object_over-requires t c = (
  first_of (omega arith, omega (arith, c.decreases), search rules),
  (c.requires.order, renamed_allowed (side c.args.from) c.args.o.now.fitted.level c.args.o.now.required c.args.x.now (entries_left c.args.kept.now) _ _ _ _ c.inner_name-own.ensures (c.inner_name-theirs.ensures ∙ ap (λ (s : Side). named s c.args.o.now.spoke.bytes c.args.o.now.hub.bytes) c.other.ensures) c.requires.allowed),
)

pub inners_over-inner_over-requires : goal.inners_over-inner_over-requires
inners_over-inner_over-requires t c =
    let bound = inner_depth c.args.inners.now (inners_of c.args.inners.now) c.loop-o.o-index c.o-item.result refl c.loop-o-test.true c.o-item.is in (
      first_of (omega (arith, bound), omega (arith, c.decreases, bound), search (rules, inner_depth)),
      (c.requires.order, (first_inner (side c.args.from) c.args.x.now (entries_left c.args.kept.now) _ _ _ _ _ _ (inners_from c.args.inners.now c.loop-o.o-index c.o-item.result c.loop-o-test.true c.o-item.is) c.loop-o.invariant.allowed).0),
    )

pub level_over-inners_over-requires : goal.level_over-inners_over-requires
level_over-inners_over-requires t c =
    let bound = depth_is c.args.f.now.level (inners_of c.inner-inner.result.now) c.inner-inner.ensures.inner in (
      first_of (omega (arith, bound), omega (arith, c.decreases, bound), search rules),
      (c.requires.order, inners_allowed (side c.args.from) c.args.f.now.level (inners_of c.inner-inner.result.now) c.args.x.now (entries_left c.args.kept.now) c.inner-inner.ensures.inner c.requires.allowed),
    )

pub object_over-level_over-requires : goal.object_over-level_over-requires
object_over-level_over-requires t c = (
  first_of (omega arith, omega (arith, c.decreases), search rules),
  (
    inside_is_order (c.as_str-in-Some.result.now) (entries_left c.args.kept.now) (entries_left c.inside-within.result) c.inside-within.ensures c.requires.order,
    object_allowed (side c.args.from) c.args.f.now.level (field c.args.own.now.bytes c.args.x.now) _ (inside c.args.theirs.now.bytes (entries_left c.args.kept.now)) _ (c.in-Some.ensures ∙ ap (λ (n : Name). object_in (field n c.args.x.now)) c.as_str.ensures) (c.inside-within.ensures ∙ ap (λ (n : Name). inside n (entries_left c.args.kept.now)) c.as_str-in-Some.ensures) c.requires.allowed,
  ),
)

pub level_over-cross_cells-requires-clause-allowed : goal.level_over-cross_cells-requires-clause-allowed
level_over-cross_cells-requires-clause-allowed t c =
    cells_allowed (side c.args.from) c.args.f.now.level _ c.args.x.now (entries_left c.args.kept.now) c.cells-cells.ensures.cells c.requires.allowed

pub level_over-returns-clause-fields : goal.level_over-returns-clause-fields
level_over-returns-clause-fields t c =
    level_fields (side c.args.from) c.args.f.now.level _ _ c.args.x.now (entries_left c.args.kept.now) _ c.cross_cells.new.fields c.cells-cells.ensures.cells c.inner-inner.ensures.inner c.cells-cells.ensures.fitted.fits c.requires.allowed (c.in_ok-cross_cells.ensures.fields ∙ ap (cell_fields (side c.args.from) (map cell c.cells-cells.result.now) c.args.x.now (entries_left c.args.kept.now)) c.in_ok-fields.ensures) c.in_ok-inners_over.ensures.fields

pub level_over-returns-clause-entries : goal.level_over-returns-clause-entries
level_over-returns-clause-entries t c =
    level_entries (side c.args.from) c.args.f.now.level _ _ c.args.x.now (entries_left c.args.kept.now) _ (map turned c.cross_cells.new.entries.items) c.cells-cells.ensures.cells c.inner-inner.ensures.inner (c.in_ok-cross_cells.ensures.entries ∙ ap (λ (fs : List Entry). fs ++ cell_kept (side c.args.from) (map cell c.cells-cells.result.now) c.args.x.now (entries_left c.args.kept.now)) (ap (map turned) c.new-entries.ensures.items)) c.in_ok-inners_over.ensures.entries

pub inners_over-loop-o-preserved : goal.inners_over-loop-o-preserved
inners_over-loop-o-preserved t c =
    let l = c.loop-o in
    let d = side c.args.from in
    let x = c.args.x.now in
    let es = entries_left c.args.kept.now in
    let o = c.o-item.result in
    let rest = inners_of (drop (l.o-index + 1) c.args.inners.now) in
    let step = inners_from c.args.inners.now l.o-index o c.loop-o-test.true c.o-item.is in
    let n = named d o.spoke.bytes o.hub.bytes in
    let marks = inner_marks d o.fitted.level (field n x) (inside (named (other d) o.spoke.bytes o.hub.bytes) es) in
    record {
      allowed = (first_inner d x es _ rest _ _ _ _ step l.invariant.allowed).1;
      fields = ap (inner_fields d rest x es) c.in_ok-inner_over.ensures.fields ∙ ap (λ (is : Inners). inner_fields d is x es l.fields) (sym step) ∙ l.invariant.fields;
      entries = ap (λ (fs : List Entry). fs ++ inner_kept d rest x es) c.in_ok-inner_over.ensures.entries ∙ inside_append n (all_entries (other d) o.fitted.level) marks (map turned l.entries.items) (inner_kept d rest x es) ∙ ap (λ (is : Inners). map turned l.entries.items ++ inner_kept d is x es) (sym step) ∙ l.invariant.entries;
    }

pub inners_over-returns-clause-fields : goal.inners_over-returns-clause-fields
inners_over-returns-clause-fields t c =
    ap (λ (is : List Inner). inner_fields (side c.args.from) (inners_of is) c.args.x.now (entries_left c.args.kept.now) c.loop-o.fields) (sym (drop_all c.loop-o.o-index c.args.inners.now c.loop-o-test.false)) ∙ c.loop-o.invariant.fields

pub inners_over-returns-clause-entries : goal.inners_over-returns-clause-entries
inners_over-returns-clause-entries t c =
    let fs = map turned c.loop-o.entries.items in
    sym (append-nil fs)
    ∙ ap (λ (is : List Inner). fs ++ inner_kept (side c.args.from) (inners_of is) c.args.x.now (entries_left c.args.kept.now)) (sym (drop_all c.loop-o.o-index c.args.inners.now c.loop-o-test.false)) ∙ c.loop-o.invariant.entries

pub inner_over-returns-clause-fields : goal.inner_over-returns-clause-fields
inner_over-returns-clause-fields t c =
    let d = side c.args.from in
    let o = c.args.o.now in
    let x = c.args.x.now in
    let es = entries_left c.args.kept.now in
    let k = c.inner_name-theirs.result.now.bytes in
    let theirs = c.inner_name-theirs.ensures ∙ ap (λ (s : Side). named s o.spoke.bytes o.hub.bytes) c.other.ensures in
    let own = subst (λ (n : Name). OnOk c.object_over.result (c.object_over.new.fields ≡ put (k ∷ []) (as_field (there (body (other d) o.fitted.level) (inner_marks d o.fitted.level (field n x) (inside k es))) ∷ []) c.args.fields.now)) c.inner_name-own.ensures c.object_over.ensures.fields in
    subst (λ (m : Name). OnOk c.object_over.result (c.object_over.new.fields ≡ put (m ∷ []) (as_field (there (body (other d) o.fitted.level) (inner_marks d o.fitted.level (field (named d o.spoke.bytes o.hub.bytes) x) (inside m es))) ∷ []) c.args.fields.now)) theirs own

pub inner_over-returns-clause-entries : goal.inner_over-returns-clause-entries
inner_over-returns-clause-entries t c =
    let d = side c.args.from in
    let o = c.args.o.now in
    let x = c.args.x.now in
    let es = entries_left c.args.kept.now in
    let k = c.inner_name-theirs.result.now.bytes in
    let before = map turned c.args.entries.now.items in
    let after = map turned c.object_over.new.entries.items in
    let theirs = c.inner_name-theirs.ensures ∙ ap (λ (s : Side). named s o.spoke.bytes o.hub.bytes) c.other.ensures in
    let own = subst (λ (n : Name). OnOk c.object_over.result (after ≡ before ++ with_inside n (all_entries (other d) o.fitted.level) (inner_marks d o.fitted.level (field n x) (inside k es)) [])) c.inner_name-own.ensures c.object_over.ensures.entries in
    let n = named d o.spoke.bytes o.hub.bytes in
    subst (λ (m : Name). OnOk c.object_over.result (after ≡ before ++ with_inside n (all_entries (other d) o.fitted.level) (inner_marks d o.fitted.level (field n x) (inside m es)) [])) theirs own

pub object_over-returns-in-None-clause-fields : goal.object_over-returns-in-None-clause-fields
object_over-returns-in-None-clause-fields t c =
    let d = side c.args.from in
    let l = c.args.f.now.level in
    let x = c.args.x.now in
    let es = inside c.args.theirs.now.bytes (entries_left c.args.kept.now) in
    ap (λ (o : Option Pairs). put (c.args.theirs.now.bytes ∷ []) (as_field (there (body (other d) l) (there (λ (y : Pairs). marks_over d l y es) o)) ∷ []) c.args.fields.now) (c.in-None.ensures ∙ ap (λ (n : Name). object_in (field n x)) c.as_str.ensures)

pub object_over-returns-in-None-clause-entries : goal.object_over-returns-in-None-clause-entries
object_over-returns-in-None-clause-entries t c =
    let d = side c.args.from in
    let l = c.args.f.now.level in
    let x = c.args.x.now in
    let es = inside c.args.theirs.now.bytes (entries_left c.args.kept.now) in
    let before = map turned c.args.entries.now.items in
    sym (append-nil before)
    ∙ ap (λ (o : Option Pairs). before ++ with_inside c.args.own.now.bytes (all_entries (other d) l) (there (λ (y : Pairs). marks_over d l y es) o) []) (c.in-None.ensures ∙ ap (λ (n : Name). object_in (field n x)) c.as_str.ensures)

pub object_over-returns-in_ok-put_under-in-Some-clause-fields : goal.object_over-returns-in_ok-put_under-in-Some-clause-fields
object_over-returns-in_ok-put_under-in-Some-clause-fields t c =
    let d = side c.args.from in
    let l = c.args.f.now.level in
    let x = c.args.x.now in
    let es = inside c.args.theirs.now.bytes (entries_left c.args.kept.now) in
    let fs = c.args.fields.now in
    let made = c.in_ok-made-in-Some in
    let within = c.inside-within.ensures ∙ ap (λ (n : Name). inside n (entries_left c.args.kept.now)) c.as_str-in-Some.ensures in
    let whole = made.ensures.fields ∙ ap (λ (gs : List Entry). body (other d) l (marks_over d l c.in-Some.y.now gs)) within in
    c.in_ok-set-in-Some.ensures.ok
    ∙ ap (λ (n : Name). with_field n (object (members_of made.made.fields)) fs) (c.in_ok-of-in-Some.ensures ∙ c.as_str-in-Some-2.ensures)
    ∙ ap (λ (ps : Pairs). with_field c.args.theirs.now.bytes (object (members_of ps)) fs) whole
    ∙ ap (λ (o : Option Pairs). put (c.args.theirs.now.bytes ∷ []) (as_field (there (body (other d) l) (there (λ (y : Pairs). marks_over d l y es) o)) ∷ []) c.args.fields.now) (c.in-Some.ensures ∙ ap (λ (n : Name). object_in (field n x)) c.as_str.ensures)

pub object_over-returns-in_ok-put_under-in-Some-clause-entries : goal.object_over-returns-in_ok-put_under-in-Some-clause-entries
object_over-returns-in_ok-put_under-in-Some-clause-entries t c =
    let d = side c.args.from in
    let l = c.args.f.now.level in
    let x = c.args.x.now in
    let es = inside c.args.theirs.now.bytes (entries_left c.args.kept.now) in
    let before = map turned c.args.entries.now.items in
    let own = c.args.own.now.bytes in
    let made = c.in_ok-made-in-Some in
    let within = c.inside-within.ensures ∙ ap (λ (n : Name). inside n (entries_left c.args.kept.now)) c.as_str-in-Some.ensures in
    let whole = made.ensures.entries ∙ ap (λ (gs : List Entry). all_entries (other d) l (marks_over d l c.in-Some.y.now gs)) within in
    c.in_ok-put_under-in-Some.ensures ∙ ap (λ (n : Name). before ++ map (under n) (map turned made.made.entries.items)) c.as_str-in-Some-3.ensures
    ∙ ap (λ (gs : List Entry). before ++ map (under own) gs) whole
    ∙ ap (λ (gs : List Entry). before ++ gs) (sym (append-nil (map (under own) (all_entries (other d) l (marks_over d l c.in-Some.y.now es)))))
    ∙ ap (λ (o : Option Pairs). before ++ with_inside c.args.own.now.bytes (all_entries (other d) l) (there (λ (y : Pairs). marks_over d l y es) o) []) (c.in-Some.ensures ∙ ap (λ (n : Name). object_in (field n x)) c.as_str.ensures)
