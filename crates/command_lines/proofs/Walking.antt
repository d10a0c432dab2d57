-- What a command of long options makes of words that are options, each given once.
use Rattle.std.proofs.Common.{◌≡◌, ◌∙◌, ◌≢◌, ◌<◌, ◌++◌, ◌==◌, ℕ, Bool, true, false, List, [], ◌∷◌, length, map, Option, Some, None, refl, sym, ap, subst, arith, fold}
use Rattle.std.specs.Prelude.{if◌then◌else◌}
use Rattle.std.specs.Str.{bytes_eq}
use Rattle.std.specs.Option.{option_map_or}
use Rattle.clap.specs.Lexer.{long_of, name_and_value, short_of}
use Rattle.clap.specs.Walk.{Held, Row, Rule, Step, Text, Waiting, Walk, idle, option, trailing, after_step, arg_by_long, has_row, long_or_other, long_word, plain_word, settled, short_or_plain, used, walked, word_met}
use Rattle.clap.specs.Simple.{Shape, new_shape}
use Rattle.clap.specs.Kinds.{Kinds, or_else}
use Rattle.clap.specs.Faults.{bundle_fault, flag_word_fault, long_fault, settle_fault, step_fault, turn_fault, use_fault, walk_fault}
use Rattle.std.proofs.lemmas.Bool.Decides.{nat_tests}
use Rattle.clap.proofs.CutLemmas.{Lacks}
use Rattle.clap.proofs.LexerLemmas.{name_and_value-at, name_and_value-without}
use Rattle.command_lines.specs.Lines.{IsValue}
use Rattle.command_lines.proofs.Rows.{Among, both_none, by_id, by_long, option_rule, row, same_text, then_none, use_passes, used_is}

-- ---- words

not_dash : (b : ℕ) → b ≢ 45 → (b == 45) ≡ false
not_dash b ne = go (b == 45) refl
  where
    go : (t : Bool) → (b == 45) ≡ t → t ≡ false
    go true e = absurd (ne (grind (arith, nat_tests)))
    go false e = refl

pub value_plain : (w : Text) → IsValue w → (bytes_eq w (45 ∷ 45 ∷ []) ≡ false) × (long_of w ≡ None) × (short_of w ≡ None)
value_plain [] h = absurd h
value_plain (b ∷ bs) h = let e = not_dash b h in (rw e refl, rw e refl, rw e refl)

-- ---- one word

-- what is held between two options, and behind the name of one
abbrev pub done : List Row → Held
done rows = record { rows = rows; pending = None; skip = 0 }

abbrev pub pend : List Row → Text → List Text → Held
pend rows name values = record { rows = rows; pending = Some (name, values); skip = 0 }

abbrev pub at : Held → Waiting → Walk
at h waiting = record { held = h; waiting = waiting; position = 1; is_trailing = false; stopped = None }

-- a command with these options alone
abbrev pub leaf : Text → List Text → Shape
leaf name options = record (new_shape name) {
  rules = map option_rule options;
  no_binary_name = true;
  disable_help_flag = true;
  disable_help_subcommand = true;
  is_built = true;
}

-- ---- the words

-- behind these rows the words are options with a value, each once, and the rows are those in the end
pub data Takes (options : List Text) : List Text → List Row → List Row → Type 0 where
  taken : (rows : List Row) → Takes options [] rows rows
  take_joined : (n v : Text) (rest : List Text) (before after : List Row) → Among n options → has_row n before ≡ false → IsValue v
      → Takes options rest (before ++ row n v ∷ []) after → Takes options ((45 ∷ 45 ∷ n ++ 61 ∷ v) ∷ rest) before after
  take_apart : (n v : Text) (rest : List Text) (before after : List Row) → Among n options → has_row n before ≡ false → IsValue v
      → Takes options rest (before ++ row n v ∷ []) after → Takes options ((45 ∷ 45 ∷ n) ∷ v ∷ rest) before after

-- an option's name has no `=`, and isn't empty
abbrev pub IsName : Text → Type 0
IsName [] = ⊥
IsName (b ∷ bs) = Lacks 61 (b ∷ bs)

pub some_value : (v : Text) → IsValue v → 0 < length v
some_value [] h = absurd h
some_value (b ∷ bs) h = omega arith

module _ (command : Text) (options : List Text) where
  abbrev pub R : List Rule
  R = map option_rule options

  abbrev pub S : Shape
  S = leaf command options

  -- what is held stands for these rows
  abbrev pub IsReady : Held → List Row → Type 0
  IsReady h rows = (settle_fault R false h ≡ []) × (settled R h ≡ done rows)

  pub ready_done : (rows : List Row) → IsReady (done rows) rows
  ready_done rows = (refl, refl)

  ready_held : (n v : Text) (rows : List Row) → Among n options → has_row n rows ≡ false → 0 < length v → IsReady (pend rows n (v ∷ [])) (rows ++ row n v ∷ [])
  ready_held n v rows among none some = (
    rw (by_id options n among) (use_passes n v rows none some),
    rw (by_id options n among) (ap done (used_is n v rows none)),
  )

  -- ---- a word that doesn't begin as an option does

  plain_met : (h : Held) (n w : Text) → IsValue w → word_met R [] false (option n) 1 w h ≡ plain_word R (option n) w h
  plain_met h n w plain =
      let e = value_plain w plain in
      ap (λ (b : Bool). if b then (h, trailing 1) else long_or_other R (option n) w (long_of w) h) e.0
      ∙ ap (λ o. long_or_other R (option n) w o h) e.1 ∙ ap (λ o. short_or_plain R (option n) w o h) e.2

  value_taken : (rows : List Row) (n w : Text) → Among n options → IsValue w → walked R [] (at (pend rows n []) (option n)) w ≡ at (pend rows n (w ∷ [])) idle
  unfolding walked
  value_taken rows n w among plain =
      ap (λ (m : Held × Step). after_step R w (at (pend rows n []) (option n)) m.0 m.1) (plain_met (pend rows n []) n w plain)
      ∙ rw (by_id options n among, same_text n) refl

  value_passes : (rows : List Row) (n w : Text) → IsValue w → turn_fault S [] (at (pend rows n []) (option n)) w ≡ []
  value_passes rows n w plain =
      let e = value_plain w plain in
      both_none _ _
      (ap (λ (b : Bool). if b then [] else flag_word_fault R false (long_of w) w (pend rows n [])) e.0
      ∙ ap (λ o. flag_word_fault R false o w (pend rows n [])) e.1 ∙ ap (λ o. option_map_or (λ flags. bundle_fault R false flags (pend rows n [])) o []) e.2)
      (ap (λ (m : Held × Step). step_fault S 1 m.0 m.1) (plain_met (pend rows n []) n w plain))

  -- ---- a word that begins as an option does

  abbrev long_walk : Held → Text → Text × Option Text → Walk
  long_walk h word p = after_step R word (at h idle) (long_word R idle word p.0 p.1 h).0 (long_word R idle word p.0 p.1 h).1

  abbrev long_kinds : Held → Text → Text × Option Text → Kinds
  long_kinds h word p = or_else (long_fault R false (arg_by_long R p.0) p.1 h) (step_fault S 1 (long_word R idle word p.0 p.1 h).0 (long_word R idle word p.0 p.1 h).1)

  dashed_walk : (h : Held) (b : ℕ) (t : Text) → walked R [] (at h idle) (45 ∷ 45 ∷ b ∷ t) ≡ long_walk h (45 ∷ 45 ∷ b ∷ t) (name_and_value (b ∷ t))
  unfolding walked
  dashed_walk h b t = refl

  -- an option with its value in one word
  joined_walk : (h : Held) (rows : List Row) (n v : Text) (b : ℕ) (t : Text) → IsReady h rows → Among n options → name_and_value (b ∷ t) ≡ (n, Some v)
      → walked R [] (at h idle) (45 ∷ 45 ∷ b ∷ t) ≡ at (done (used (option_rule n) (v ∷ []) rows)) idle
  joined_walk h rows n v b t ready among cut =
      dashed_walk h b t ∙ ap (long_walk h (45 ∷ 45 ∷ b ∷ t)) cut
      ∙ rw (by_long options n among) (ap (λ (k : Held). at (record k { rows = used (option_rule n) (v ∷ []) k.rows }) idle) ready.1)

  joined_fault : (h : Held) (rows : List Row) (n v : Text) (b : ℕ) (t : Text) → IsReady h rows → Among n options → name_and_value (b ∷ t) ≡ (n, Some v)
      → turn_fault S [] (at h idle) (45 ∷ 45 ∷ b ∷ t) ≡ use_fault false (option_rule n) (v ∷ []) rows
  joined_fault h rows n v b t ready among cut =
      ap (long_kinds h (45 ∷ 45 ∷ b ∷ t)) cut
      ∙ rw (by_long options n among) (then_none _ ∙ ap (λ (k : Kinds). or_else k (use_fault false (option_rule n) (v ∷ []) (settled R h).rows)) ready.0
      ∙ ap (λ (k : Held). use_fault false (option_rule n) (v ∷ []) k.rows) ready.1)

  -- an option whose value is the next word
  named_walk : (h : Held) (rows : List Row) (n : Text) (b : ℕ) (t : Text) → IsReady h rows → Among n options → name_and_value (b ∷ t) ≡ (n, None)
      → walked R [] (at h idle) (45 ∷ 45 ∷ b ∷ t) ≡ at (pend rows n []) (option n)
  named_walk h rows n b t ready among cut =
      dashed_walk h b t ∙ ap (long_walk h (45 ∷ 45 ∷ b ∷ t)) cut
      ∙ rw (by_long options n among) (ap (λ (k : Held). at (record k { pending = Some (n, []) }) (option n)) ready.1)

  named_fault : (h : Held) (rows : List Row) (n : Text) (b : ℕ) (t : Text) → IsReady h rows → Among n options → name_and_value (b ∷ t) ≡ (n, None)
      → turn_fault S [] (at h idle) (45 ∷ 45 ∷ b ∷ t) ≡ []
  named_fault h rows n b t ready among cut =
      ap (long_kinds h (45 ∷ 45 ∷ b ∷ t)) cut ∙ rw (by_long options n among) (then_none _ ∙ ready.0)

  -- ---- the words

  abbrev pub end_of : Held → List Text → Held
  end_of h words = (fold (walked R []) (at h idle) words).held

  module _ (legal : (n : Text) → Among n options → IsName n) where
    -- such words pass
    pub passes : (words : List Text) (h : Held) (before after : List Row) → IsReady h before → Takes options words before after
        → (walk_fault S [] (at h idle) words ≡ []) × IsReady (end_of h words) after
    unfolding walk_fault
    passes words h before after ready (taken rows) = (refl, ready)
    passes words h before after ready (take_joined [] v rest rows last among free is more) = absurd (legal [] among)
    passes words h before after ready (take_joined (b ∷ bs) v rest rows last among free is more) =
        let n = b ∷ bs in
        let cut = name_and_value-at n v (legal n among) in
        let step = joined_walk h before n v b (bs ++ 61 ∷ v) ready among cut ∙ ap (λ rs. at (done rs) idle) (used_is n v before free) in
        let turn = joined_fault h before n v b (bs ++ 61 ∷ v) ready among cut ∙ use_passes n v before free (some_value v is) in
        let rec = passes rest (done (before ++ row n v ∷ [])) (before ++ row n v ∷ []) after (ready_done _) more in (
          both_none _ _ turn (ap (λ w. walk_fault S [] w rest) step ∙ rec.0),
          subst (λ w. IsReady (fold (walked R []) w rest).held after) (sym step) rec.1,
        )
    passes words h before after ready (take_apart [] v rest rows last among free is more) = absurd (legal [] among)
    passes words h before after ready (take_apart (b ∷ bs) v rest rows last among free is more) =
        let n = b ∷ bs in
        let cut = name_and_value-without n (legal n among) in
        let step = named_walk h before n b bs ready among cut in
        let held = value_taken before n v among is in
        let turn = named_fault h before n b bs ready among cut in
        let rec = passes rest (pend before n (v ∷ [])) (before ++ row n v ∷ []) after (ready_held n v before among free (some_value v is)) more in (
          both_none _ _ turn (ap (λ w. walk_fault S [] w (v ∷ rest)) step
              ∙ both_none _ _ (value_passes before n v is) (ap (λ w. walk_fault S [] w rest) held ∙ rec.0)),
          subst (λ w. IsReady (fold (walked R []) w (v ∷ rest)).held after) (sym step) (subst (λ w. IsReady (fold (walked R []) w rest).held after) (sym held) rec.1),
        )
