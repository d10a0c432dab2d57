use Rattle.std.proofs.Common.{◌≡◌, ◌-◌, ◌<◌, ◌++◌, [], ◌∷◌, length, Some, None, sym, ap, ◌∙◌, arith, rules}
use Rattle.json.specs.Token.{Token}
use Rattle.json.specs.Json.{parse_map, after_end_array, read_key, items, members, value}
use Rattle.json.specs.Reads.{token_of}
use Rattle.json.proofs.Grammar.{value_is, value-begin_array, value-begin_object, read_key-shorter}
use Rattle.serde_json.specs.Data as serde
use Rattle.serde_json.specs.Read.{of_json, of_items, of_members, converted}
use Rattle.kj_value.specs.Json.{members_of}
use Rattle.kj_value.specs.Fields.{with_field}
use Rattle.kj_value.specs.Seen.{json}
use Rattle.kj_value.specs.Data.{to_data, members_data}
use Rattle.kj_value.proofs.Tokens.{converted-array, converted-object, item_read, items_over, member_read, members_over, items_before, items_before-end, one_more_item, none_before, items_depth-push, data-with_field, members_depth-with_field}
use Rattle.kj_value.proofs.quick.+quick.Goals as goal

pub quick-returns-in-Ok-clause-ok : goal.quick-returns-in-Ok-clause-ok
quick-returns-in-Ok-clause-ok t c =
    let first : c.args.reader.now ≡ token_of c.in_ok-token.token ∷ c.next.new.self = grind arith in
    let is : c.args.reader.now ≡ Token.string c.in-String.text.now ∷ c.next.new.self = grind (arith, first) in
    ap (converted of_json) (ap (value c.args.nested) is ∙ value_is c.args.nested _) ∙ ap (λ s. Some (serde.string s, c.next.new.self)) (sym c.in-Ok.ensures)

pub quick-returns-in-Bool-clause-ok : goal.quick-returns-in-Bool-clause-ok
quick-returns-in-Bool-clause-ok t c =
    let first : c.args.reader.now ≡ token_of c.in_ok-token.token ∷ c.next.new.self = grind arith in
    let is : c.args.reader.now ≡ Token.boolean c.in-Bool.b ∷ c.next.new.self = grind (arith, first) in
    ap (converted of_json) (ap (value c.args.nested) is ∙ value_is c.args.nested _)

pub quick-returns-in-Null-clause-ok : goal.quick-returns-in-Null-clause-ok
quick-returns-in-Null-clause-ok t c =
    let first : c.args.reader.now ≡ token_of c.in_ok-token.token ∷ c.next.new.self = grind arith in
    let is : c.args.reader.now ≡ Token.null ∷ c.next.new.self = grind (arith, first) in
    ap (converted of_json) (ap (value c.args.nested) is ∙ value_is c.args.nested _)

pub quick-returns-in-Some-clause-ok : goal.quick-returns-in-Some-clause-ok
quick-returns-in-Some-clause-ok t c =
    let first : c.args.reader.now ≡ token_of c.in_ok-token.token ∷ c.next.new.self = grind arith in
    let is : c.args.reader.now ≡ Token.number c.in-Number.text.now ∷ c.next.new.self = grind (arith, first) in
    ap (converted of_json) (ap (value c.args.nested) is ∙ value_is c.args.nested _) ∙ rw c.in-Some.ensures (search rules)

pub quick-returns-in_ok-quick_items-in-BeginArray-clause-ok : goal.quick-returns-in_ok-quick_items-in-BeginArray-clause-ok
quick-returns-in_ok-quick_items-in-BeginArray-clause-ok t c =
    let first : c.args.reader.now ≡ token_of c.in_ok-token.token ∷ c.next.new.self = grind arith in
    let opened = ap (converted of_json) (ap (value c.args.nested) (first ∙ ap (λ k. token_of k ∷ c.next.new.self) c.in-BeginArray.is) ∙ value-begin_array c.args.nested c.next.new.self (omega arith)) ∙ converted-array (items (value (c.args.nested - 1)) (length c.next.new.self) c.next.new.self) in
    let found = c.in_ok-quick_items-in-BeginArray in
    opened ∙ ap (parse_map serde.array) found.ensures.ok

pub quick-returns-in_ok-quick_members-in-BeginObject-clause-ok : goal.quick-returns-in_ok-quick_members-in-BeginObject-clause-ok
quick-returns-in_ok-quick_members-in-BeginObject-clause-ok t c =
    let first : c.args.reader.now ≡ token_of c.in_ok-token.token ∷ c.next.new.self = grind arith in
    let opened = ap (converted of_json) (ap (value c.args.nested) (first ∙ ap (λ k. token_of k ∷ c.next.new.self) c.in-BeginObject.is) ∙ value-begin_object c.args.nested c.next.new.self (omega arith)) ∙ converted-object (members (value (c.args.nested - 1)) (length c.next.new.self) c.next.new.self) in
    let found = c.in_ok-quick_members-in-BeginObject in
    opened ∙ ap (parse_map serde.object) found.ensures.ok

pub quick_items-items-init : goal.quick_items-items-init
quick_items-items-init t c =
    let all = converted of_items (items (value c.args.nested) (length c.args.reader.now) c.args.reader.now) in
    (length c.args.reader.now, omega arith, none_before all ∙ ap (λ js. parse_map (items_before js) all) (sym c.new-found.ensures), omega arith, rw c.new-found.ensures (omega arith))

pub quick_items-items-preserved : goal.quick_items-items-preserved
quick_items-items-preserved t c =
    let p = value c.args.nested in
    let l = c.items in
    let n = l.invariant.0 in
    let going : (after_end_array l.reader ≡ None) × (c.take_end_array.new.self ≡ l.reader) = grind arith in
    let done = c.in_ok-item.ensures in
    let v = json c.in_ok-item.item in
    let r = c.quick.new.reader in
    let less : length r < length l.reader = rw (← going.1) done.shorter in
    let turn = item_read p n l.reader r (to_data v) (omega (arith, l.invariant.1)) going.0 (rw (← going.1) done.ok) in
    let pushed : c.push.new.self ≡ l.found ++ v ∷ [] = c.in-Ok.ensures.ok in (
      n - 1,
      omega (arith, l.invariant.1),
      l.invariant.2 ∙ ap (parse_map (items_before l.found)) turn ∙ one_more_item l.found v _ ∙ ap (λ js. parse_map (items_before js) (converted of_items (items p (n - 1) r))) (sym pushed),
      omega (arith, l.invariant.3),
      rw pushed (items_depth-push l.found v c.args.levels l.invariant.4 done.depth),
    )

pub quick_items-returns-clause-ok : goal.quick_items-returns-clause-ok
quick_items-returns-clause-ok t c =
    let p = value c.args.nested in
    let l = c.items in
    let n = l.invariant.0 in
    let r = c.take_end_array.new.self in
    l.invariant.2 ∙ ap (parse_map (items_before l.found)) (items_over p n l.reader r l.invariant.1 (grind arith)) ∙ ap (λ ds. Some (ds, r)) (items_before-end l.found)

pub quick_members-members-init : goal.quick_members-members-init
quick_members-members-init t c =
    let all = members (value c.args.nested) (length c.args.reader.now) c.args.reader.now in
    (length c.args.reader.now, omega arith, ap (λ es. converted (λ ms. of_members ms (members_data (members_of es))) all) (sym c.new-found.ensures), omega arith, rw c.new-found.ensures (omega arith))

pub quick_members-members-preserved : goal.quick_members-members-preserved
quick_members-members-preserved t c =
    let p = value c.args.nested in
    let l = c.members in
    let n = l.invariant.0 in
    let old = members_data (members_of l.found) in
    let k = c.in-Some.name.now in
    let s = c.next_name.new.reader in
    let named : read_key l.reader ≡ Some (Some k, s) = grind arith in
    let done = c.in_ok-value.ensures in
    let v = json c.in_ok-value.value in
    let r = c.quick.new.reader in
    let less = read_key-shorter l.reader (Some k) s named in
    let lesser = done.shorter in
    let put : c.set.new.self ≡ with_field k v l.found = c.in-Ok-set.ensures.ok ∙ ap (λ name. with_field name v l.found) c.in-Ok.ensures in (
      n - 1,
      omega (arith, l.invariant.1),
      l.invariant.2 ∙ member_read p old n k l.reader s r (to_data v) (omega (arith, l.invariant.1)) named done.ok
          ∙ ap (λ found. converted (λ ms. of_members ms found) (members p (n - 1) r)) (sym (ap (λ es. members_data (members_of es)) put ∙ data-with_field k v l.found)),
      omega (arith, l.invariant.3),
      rw put (members_depth-with_field k v l.found c.args.levels l.invariant.4 done.depth),
    )

pub quick_members-returns-clause-ok : goal.quick_members-returns-clause-ok
quick_members-returns-clause-ok t c =
    let p = value c.args.nested in
    let l = c.members in
    let n = l.invariant.0 in
    let old = members_data (members_of l.found) in
    l.invariant.2 ∙ members_over p old n l.reader c.next_name.new.reader l.invariant.1 (grind arith)
