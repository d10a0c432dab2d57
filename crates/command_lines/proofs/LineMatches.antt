-- What `clap` makes of the words of a line, and the line that its matches are.
use Rattle.std.proofs.Common.{◌≡◌, ◌≢◌, ◌∙◌, ◌<◌, ℕ, zero, suc, false, List, [], ◌∷◌, Option, Some, None, refl, sym, ap, ap₂, subst, inl, inr, arith, get_or, codes, option_map}
use Rattle.std.specs.Prelude.{◌^◌, Box, IfSome, MatchOption, decimal, unwrap_or}
use Rattle.std.specs.Box.{box_value}
use Rattle.std.proofs.lemmas.Fmt.{decimal_digit, first_decimal}
use Rattle.clap.specs.Walk.{Row, Text, first_of, nothing_held, rows_after, rows_of}
use Rattle.clap.specs.Simple.{subcommand_of, subcommand_rows, subcommand_rows_of}
use Rattle.clap.specs.Matches.{found_of, subcommand_name_of}
use Rattle.clap.specs.declared.parser.matches.ArgMatches.TheViews.{out-ArgMatches, out-SubCommand}
use Rattle.clap.specs.declared.parser.matches.SubCommand.{SubCommand}
use Rattle.clap.specs.declared.parser.matches.ArgMatches.{ArgMatches}
use Rattle.clap.specs.Faults.{fault_of, level_fault}
use Rattle.command_lines.specs.declared.words.Command.{Command}
use Rattle.command_lines.specs.Given.{IsCommand, line_of}
use Rattle.command_lines.specs.Lines.{Line, Remote, Values, convert, review, drill, dump, load, migrate, pipe, remote, serve, task, Gives, HasAddress, HasNumbers, HasValues, IsLine, IsValue, command_word, no_values, remote_word}
use Rattle.command_lines.specs.inner.Parsing.{Fills, Finds, long_options, program, values_of}
use Rattle.command_lines.proofs.LineWords.{line_found, low_fifth, no_drill, no_within, one_end, only_drill, only_remote, same_address}
use Rattle.command_lines.proofs.Walking.{R, S}
use Rattle.command_lines.proofs.Level.{level_passes}
use Rattle.command_lines.proofs.Giving.{gives_takes, legal}
use Rattle.command_lines.proofs.Commands.{address_leaf, drill_leaf, enters_fault, enters_rows, numbers, places}
use Rattle.command_lines.proofs.Addressing.{address_passes}
use Rattle.command_lines.proofs.Drill.{drill_passes}

-- ---- the words of a line

enters : (line : Line) (values : Values) (rest : List Text) → HasValues line values
    → (fault_of program (command_word line ∷ rest) ≡ level_fault (S (command_word line) long_options) [] nothing_held rest false [])
    × (subcommand_of program (command_word line ∷ rest) ≡ Some (command_word line, rows_after (R (command_word line) long_options) [] rest))
enters (pipe source turns) values rest has = (enters_fault (codes "pipe") _ refl refl refl rest, enters_rows (codes "pipe") _ refl refl refl rest)
enters (task c r (convert to)) values rest has = (enters_fault (codes "convert") _ refl refl refl rest, enters_rows (codes "convert") _ refl refl refl rest)
enters (task c r review) values rest has = (enters_fault (codes "review") _ refl refl refl rest, enters_rows (codes "review") _ refl refl refl rest)
enters (drill start count) values rest has = absurd has
enters (serve source l) values rest has = (enters_fault (codes "serve") _ refl refl refl rest, enters_rows (codes "serve") _ refl refl refl rest)
enters (remote work url) values rest has = absurd has

enters_address : (work : Remote) (rest : List Text) → (fault_of program (remote_word work ∷ rest) ≡ level_fault (address_leaf (remote_word work)) [] nothing_held rest false [])
    × (subcommand_of program (remote_word work ∷ rest) ≡ Some (remote_word work, rows_after places [] rest))
enters_address migrate rest = (enters_fault (codes "migrate") _ refl refl refl rest, enters_rows (codes "migrate") _ refl refl refl rest)
enters_address dump rest = (enters_fault (codes "dump") _ refl refl refl rest, enters_rows (codes "dump") _ refl refl refl rest)
enters_address load rest = (enters_fault (codes "load") _ refl refl refl rest, enters_rows (codes "load") _ refl refl refl rest)

enters_drill : (rest : List Text) → (fault_of program (codes "drill" ∷ rest) ≡ level_fault drill_leaf [] nothing_held rest false [])
    × (subcommand_of program (codes "drill" ∷ rest) ≡ Some (codes "drill", rows_after numbers [] rest))
enters_drill rest = (enters_fault (codes "drill") _ refl refl refl rest, enters_rows (codes "drill") _ refl refl refl rest)

-- a number's digits are a value
some_digits : (text : List ℕ) → 47 < get_or text 0 0 → IsValue text
some_digits [] digit = omega (arith, digit)
some_digits (b ∷ bs) digit = λ e. omega (arith, digit, e)

digits_value : (n : ℕ) → n < 2 ^ 64 → IsValue (decimal n)
digits_value zero low = subst IsValue (sym (decimal_digit 0 (omega arith))) (λ e. omega (arith, e))
digits_value (suc n) low = some_digits (decimal (suc n)) (omega (arith, first_decimal (suc n) (omega arith) low))

-- the words are taken, and the matches of their command have the values of the line
abbrev pub IsRead : (words : List Text) (line : Line) → IsLine words line → Type 0
IsRead words line is = (name : Text) × (rest : List Text) × (rows : List Row) × (words ≡ name ∷ rest) × (fault_of program words ≡ [])
    × (subcommand_of program words ≡ Some (name, rows)) × Fills words line is rows

pub reads : (words : List Text) (line : Line) (is : IsLine words line) → IsRead words line is
reads words line (inl l) =
    let taken = gives_takes l.options l.values l.gives in
    let here = enters line l.values l.options l.has in
    let level = level_passes (command_word line) long_options legal l.options taken.0 taken.1 in (
      command_word line,
      l.options,
      rows_after (R (command_word line) long_options) [] l.options,
      l.command,
      ap (fault_of program) l.command ∙ here.0 ∙ level.0,
      ap (subcommand_of program) l.command ∙ here.1,
      ap values_of level.1 ∙ taken.2,
    )
reads words line (inr (inl n)) =
    let rest = decimal n.start ∷ decimal n.count ∷ [] in
    let here = enters_drill rest in
    let level = drill_passes (decimal n.start) (decimal n.count) (digits_value n.start (omega (arith, n.low))) (digits_value n.count (omega (arith, n.few))) in (
      codes "drill",
      rest,
      rows_after numbers [] rest,
      n.spelled,
      ap (fault_of program) n.spelled ∙ here.0 ∙ level.0,
      ap (subcommand_of program) n.spelled ∙ here.1,
      (ap (first_of (codes "start")) level.1, ap (first_of (codes "count")) level.1),
    )
reads words line (inr (inr a)) =
    let rest = a.url ∷ [] in
    let here = enters_address a.work rest in
    let level = address_passes (remote_word a.work) a.url a.value in (
      remote_word a.work,
      rest,
      rows_after places [] rest,
      a.spelled,
      ap (fault_of program) a.spelled ∙ here.0 ∙ level.0,
      ap (subcommand_of program) a.spelled ∙ here.1,
      ap (first_of (codes "url")) level.1,
    )

-- ---- the line of the matches

pub found_options : (name : Text) (rows : List Row) (o : Option Command) → (name ≡ codes "drill" → ⊥) → ((work : Remote) → name ≢ remote_word work)
    → IsCommand name (values_of rows) o → Finds name rows o
found_options name rows o no_drill no_address found rest line (inl l) fills =
    let same : name ∷ rest ≡ command_word line ∷ l.options = l.command in
    let options : rest ≡ l.options = cc in
    line_found name rest (values_of rows) o line (λ after gives. one_end l.options no_values l.values after l.gives (subst (λ (ws : List Text). Gives ws no_values after) options gives) ∙ sym fills) found l
found_options name rows o no_drill no_address found rest line (inr (inl n)) fills = absurd (no_drill (only_drill name rest line n))
found_options name rows o no_drill no_address found rest line (inr (inr a)) fills = absurd (no_address a.work (only_remote name rest line a))

pub found_address : (work : Remote) (rows : List Row) (url : Text) (c : Command) → Some url ≡ first_of (codes "url") rows → line_of c ≡ remote work url
    → Finds (remote_word work) rows (Some c)
found_address work rows url c first is rest line (inl l) fills = absurd (no_within work rest line (inl l))
found_address work rows url c first is rest line (inr (inl n)) fills = absurd (no_within work rest line (inr n))
found_address work rows url c first is rest line (inr (inr a)) fills =
    let spelled : remote_word work ∷ rest ≡ remote_word a.work ∷ a.url ∷ [] = a.spelled in
    let address : rest ≡ a.url ∷ [] = cc in
    let some : Some url ≡ Some a.url = first ∙ fills in
    let same : a.url ≡ url = cc in
    same_address work a.url line (subst (λ (ws : List Text). HasAddress (remote_word work ∷ ws) line) address a) ∙ ap (remote work) same ∙ sym is

pub no_address : (work : Remote) (rows : List Row) → None ≡ first_of (codes "url") rows → Finds (remote_word work) rows None
no_address work rows none rest line (inl l) fills = no_within work rest line (inl l)
no_address work rows none rest line (inr (inl n)) fills = no_within work rest line (inr n)
no_address work rows none rest line (inr (inr a)) fills = let some : None ≡ Some a.url = none ∙ fills in cc

-- a drill is at no address
drill_only : (rest : List Text) (line : Line) → HasAddress (codes "drill" ∷ rest) line → ⊥
drill_only rest line a =
    let fifth : 108 ≡ get_or (remote_word a.work) 4 0 = ap (λ (w : Text). get_or w 4 0) (only_remote (codes "drill") rest line a) in
    omega (arith, fifth, low_fifth a.work)

pub found_drill : (rows : List Row) (start count : Text) (o : Option Command) → Some start ≡ first_of (codes "start") rows → Some count ≡ first_of (codes "count") rows
    → ((line : Line) → HasNumbers (codes "drill" ∷ start ∷ count ∷ []) line → MatchOption o ⊥ (λ c. line ≡ line_of c)) → Finds (codes "drill") rows o
found_drill rows start count o first second only rest line (inl l) fills = absurd (no_drill rest line l)
found_drill rows start count o first second only rest line (inr (inl n)) fills =
    let some : Some start ≡ Some (decimal n.start) = first ∙ fills.0 in
    let some2 : Some count ≡ Some (decimal n.count) = second ∙ fills.1 in
    let starts : start ≡ decimal n.start = cc in
    let counts : count ≡ decimal n.count = cc in
    only line (record {
      start = n.start;
      count = n.count;
      is = n.is;
      spelled = ap₂ (λ (s c : Text). codes "drill" ∷ s ∷ c ∷ []) starts counts;
      low = n.low;
      few = n.few;
    })
found_drill rows start count o first second only rest line (inr (inr a)) fills = absurd (drill_only rest line a)

pub no_start_found : (rows : List Row) → None ≡ first_of (codes "start") rows → Finds (codes "drill") rows None
no_start_found rows none rest line (inl l) fills = no_drill rest line l
no_start_found rows none rest line (inr (inl n)) fills = let some : None ≡ Some (decimal n.start) = none ∙ fills.0 in cc
no_start_found rows none rest line (inr (inr a)) fills = drill_only rest line a

pub no_count_found : (rows : List Row) → None ≡ first_of (codes "count") rows → Finds (codes "drill") rows None
no_count_found rows none rest line (inl l) fills = no_drill rest line l
no_count_found rows none rest line (inr (inl n)) fills = let some : None ≡ Some (decimal n.count) = none ∙ fills.1 in cc
no_count_found rows none rest line (inr (inr a)) fills = drill_only rest line a

pub renamed : (name other : Text) (rows : List Row) (o : Option Command) → name ≡ other → Finds other rows o → Finds name rows o
renamed name other rows o same finds = subst (λ (w : Text). Finds w rows o) (sym same) finds

-- the name and the matches of a subcommand, from what each is
module _ {Z : Type 0} where
  met_rows : (o : Option (Box SubCommand Z)) (name : Text) (rows : List Row) → Some name ≡ option_map (λ b. (out-SubCommand (box_value b)).name.now) o
      → Some rows ≡ option_map (λ p. p.1) (subcommand_rows o) → subcommand_rows o ≡ Some (name, rows)
  met_rows None name rows e k = cc
  met_rows (Some b) name rows e k =
      let sub = out-SubCommand (box_value b) in
      let here : name ≡ sub.name.now = ap (λ (o : Option Text). unwrap_or o name) e in
      let there : rows ≡ rows_of (found_of sub.matches) = ap (λ (o : Option (List Row)). unwrap_or o rows) k in
      ap₂ (λ (n : Text) (rs : List Row). Some (n, rs)) (sym here) (sym there)

  none_met : (o : Option (Box SubCommand Z)) (met : Text × List Row) → None ≡ option_map (λ b. (out-SubCommand (box_value b)).name.now) o → subcommand_rows o ≡ Some met → ⊥
  none_met None met none some = cc
  none_met (Some b) met none some = cc

pub found_line : (m : ArgMatches) (name : Text) (rows : List Row) (o : Option Command) → Some name ≡ subcommand_name_of m → Some rows ≡ option_map (λ p. p.1) (subcommand_rows_of m)
    → Finds name rows o → (words : List Text) (line : Line) → IsLine words line → subcommand_rows_of m ≡ subcommand_of program words → MatchOption o ⊥ (λ c. line ≡ line_of c)
found_line m name rows o e k finds words line is same =
    let r = reads words line is in
    let met : Some (name, rows) ≡ Some (r.0, r.2) = sym (met_rows (out-ArgMatches m).subcommand name rows e k) ∙ same ∙ r.5 in
    let names : r.0 ≡ name = ap (λ (o : Option (Text × List Row)). (unwrap_or o (name, rows)).0) (sym met) in
    let values : r.2 ≡ rows = ap (λ (o : Option (Text × List Row)). (unwrap_or o (name, rows)).1) (sym met) in
    subst (λ (ws : List Text). (l : IsLine ws line) → Fills ws line l rows → MatchOption o ⊥ (λ c. line ≡ line_of c)) (sym (r.3 ∙ ap (λ (n : Text). n ∷ r.1) names))
    (finds r.1 line) is (subst (λ (rs : List Row). Fills words line is rs) values r.6)

pub no_line_found : (m : ArgMatches) → None ≡ subcommand_name_of m → (words : List Text) (line : Line) → IsLine words line → subcommand_rows_of m ≡ subcommand_of program words → ⊥
no_line_found m none words line is same = let r = reads words line is in none_met (out-ArgMatches m).subcommand (r.0, r.2) none (same ∙ r.5)

-- what is read is a line of the words
pub line_read : (words : List Text) (line : Line) (o : Option Command) → IsLine words line → ((other : Line) → IsLine words other → MatchOption o ⊥ (λ c. other ≡ line_of c))
    → IfSome o (λ c. IsLine words (line_of c))
line_read words line None is only = tt
line_read words line (Some c) is only = subst (IsLine words) (only line is) is
