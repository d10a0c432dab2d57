-- What words are as options, and which line they are.
use Rattle.std.proofs.Common.{◌≡◌, ◌≢◌, ◌∙◌, ℕ, ◌<◌, ◌≤◌, List, [], ◌∷◌, ◌++◌, suc, ◌-◌, length, map, take, drop, get_or, refl, ap, sym, subst, arith, inl, inr, Option, Some, None, Global, String, string_bytes}
use Rattle.std.specs.Prelude.{codes, decimal, IfSome, MatchOption, ◌==◌, if◌then◌else◌}
use Rattle.std.proofs.Math.Seq.{take-length}
use Rattle.std.proofs.lemmas.List.{append_cancel_left}
use Rattle.std.proofs.lemmas.Fmt.{decimal_injective}
use Rattle.command_lines.specs.declared.words.Taken.{Taken}
use Rattle.command_lines.specs.declared.words.Given.{Given}
use Rattle.command_lines.specs.declared.words.Command.{Command}
use Rattle.command_lines.specs.declared.numbers.TheConstants.{MOST_STEPS}
use Rattle.command_lines.specs.Given.{Within, line_of, values_in, TakesFirst, GivesOne, IsCommand}
use Rattle.command_lines.specs.Lines.{Source, built_in, by_rules, by_converter, Task, convert, review, Line, Listening, pipe, task, drill, serve, Remote, migrate, dump, load, remote, Flag, crd_flag, rules_flag, hub_flag, converter_flag, to_flag, turns_flag, listen_flag, workers_flag, connections_flag, flag_text, IsValue, IsUnserved, BeginsWithOption, apart, joined, Values, no_values, value_at, with_value, Gives, no_more, one_more, remote_word, task_word, command_word, SpellsTurns, SpellsWorkers, SpellsConnections, HasSource, HasTarget, HasValues, HasOptions, HasNumbers, HasAddress, IsLine}

-- ---- one option

-- the third, the fourth and the sixth byte of an option's name tell which it is
named_by : ℕ → ℕ → ℕ → Flag
named_by third fourth sixth =
    if third == 99 then (if fourth == 114 then crd_flag else (if sixth == 118 then converter_flag else connections_flag)) else (
    if third == 104 then hub_flag else (
    if third == 114 then rules_flag else (
    if third == 116 then (if fourth == 111 then to_flag else turns_flag) else (
    if third == 108 then listen_flag else workers_flag))))

named : List ℕ → Flag
named s = named_by (get_or s 2 0) (get_or s 3 0) (get_or s 5 0)

names : (f : Flag) (x : List ℕ) → named (flag_text f ++ x) ≡ f
unfolding named named_by
names crd_flag x = refl
names rules_flag x = refl
names hub_flag x = refl
names converter_flag x = refl
names to_flag x = refl
names turns_flag x = refl
names listen_flag x = refl
names workers_flag x = refl
names connections_flag x = refl

-- no option's name is the front of another one's
pub same_flag : (f g : Flag) (x y : List ℕ) → flag_text f ++ x ≡ flag_text g ++ y → (f ≡ g) × (x ≡ y)
same_flag f g x y e =
    let same : f ≡ g = sym (names f x) ∙ ap named e ∙ names g y in
    (same, append_cancel_left (flag_text f) x y (e ∙ ap (λ (h : Flag). flag_text h ++ y) (sym same)))

flag_alone : (f : Flag) → flag_text f ≡ flag_text f ++ []
flag_alone crd_flag = refl
flag_alone rules_flag = refl
flag_alone hub_flag = refl
flag_alone converter_flag = refl
flag_alone to_flag = refl
flag_alone turns_flag = refl
flag_alone listen_flag = refl
flag_alone workers_flag = refl
flag_alone connections_flag = refl

-- a word that begins with no name of these four groups begins with none
pub no_name : (w : List ℕ) → ((end : List ℕ) → w ≢ flag_text turns_flag ++ end)
    → ((end : List ℕ) → w ≢ flag_text crd_flag ++ end) → ((end : List ℕ) → w ≢ flag_text rules_flag ++ end) → ((end : List ℕ) → w ≢ flag_text to_flag ++ end)
    → ((end : List ℕ) → w ≢ flag_text listen_flag ++ end) → ((end : List ℕ) → w ≢ flag_text workers_flag ++ end) → ((end : List ℕ) → w ≢ flag_text connections_flag ++ end)
    → ((end : List ℕ) → w ≢ flag_text hub_flag ++ end) → ((end : List ℕ) → w ≢ flag_text converter_flag ++ end)
    → (f : Flag) (end : List ℕ) → w ≢ flag_text f ++ end
no_name w turns crd rules to listen workers connections hub converter crd_flag = crd
no_name w turns crd rules to listen workers connections hub converter rules_flag = rules
no_name w turns crd rules to listen workers connections hub converter hub_flag = hub
no_name w turns crd rules to listen workers connections hub converter converter_flag = converter
no_name w turns crd rules to listen workers connections hub converter to_flag = to
no_name w turns crd rules to listen workers connections hub converter turns_flag = turns
no_name w turns crd rules to listen workers connections hub converter listen_flag = listen
no_name w turns crd rules to listen workers connections hub converter workers_flag = workers
no_name w turns crd rules to listen workers connections hub converter connections_flag = connections

-- the first word begins with the option's name
pub front : (w : List ℕ) (ws : List (List ℕ)) (f : Flag) (v : List ℕ) (r : List (List ℕ)) → BeginsWithOption (w ∷ ws) f v r
    → (end : List ℕ) × (w ≡ flag_text f ++ end)
front w ws f v r (apart is value) = let e : w ≡ flag_text f = cc in ([], e ∙ flag_alone f)
front w ws f v r (joined is value) = (codes "=" ++ v, cc)

pub none_begins : (f : Flag) (v : List ℕ) (r : List (List ℕ)) → BeginsWithOption [] f v r → ⊥
none_begins f v r (apart is value) = cc
none_begins f v r (joined is value) = cc

-- a word that is an option's name has its value in the next one
pub record IsApart (f g : Flag) (ws : List (List ℕ)) (v : List ℕ) (r : List (List ℕ)) : Type 0 where
  pub flag : f ≡ g
  pub words : ws ≡ v ∷ r
  pub value : IsValue v

pub is_apart : (f g : Flag) (ws : List (List ℕ)) (v : List ℕ) (r : List (List ℕ)) → BeginsWithOption (flag_text g ∷ ws) f v r → IsApart f g ws v r
is_apart f g ws v r (apart is value) =
    let e : flag_text f ≡ flag_text g = cc in
    let p : flag_text f ++ [] ≡ flag_text g ++ [] = sym (flag_alone f) ∙ e ∙ flag_alone g in
    record { flag = (same_flag f g [] [] p).0; words = cc; value = value }
is_apart f g ws v r (joined is value) =
    let d : flag_text f ++ (codes "=" ++ v) ≡ flag_text g = cc in
    let p : flag_text f ++ (codes "=" ++ v) ≡ flag_text g ++ [] = d ∙ flag_alone g in
    let e : codes "=" ++ v ≡ [] = (same_flag f g (codes "=" ++ v) [] p).1 in cc

-- a longer one has its value behind it
pub record IsJoined (f g : Flag) (end : List ℕ) (ws : List (List ℕ)) (v : List ℕ) (r : List (List ℕ)) : Type 0 where
  pub flag : f ≡ g
  pub end_is : end ≡ codes "=" ++ v
  pub rest : ws ≡ r
  pub value : IsValue v

pub is_joined : (f g : Flag) (end : List ℕ) (ws : List (List ℕ)) (v : List ℕ) (r : List (List ℕ)) → end ≢ []
    → BeginsWithOption ((flag_text g ++ end) ∷ ws) f v r → IsJoined f g end ws v r
is_joined f g end ws v r some (apart is value) =
    let d : flag_text g ++ end ≡ flag_text f = cc in
    let p : flag_text g ++ end ≡ flag_text f ++ [] = d ∙ flag_alone f in
    absurd (some (same_flag g f end [] p).1)
is_joined f g end ws v r some (joined is value) =
    let p : flag_text g ++ end ≡ flag_text f ++ (codes "=" ++ v) = cc in
    let s = same_flag g f end (codes "=" ++ v) p in
    record { flag = sym s.0; end_is = s.1; rest = cc; value = value }

-- words begin with one option
pub record AreSame (f g : Flag) (v w : List ℕ) (r s : List (List ℕ)) : Type 0 where
  pub flag : f ≡ g
  pub value : v ≡ w
  pub rest : r ≡ s

pub one_option : (ws : List (List ℕ)) (f g : Flag) (v w : List ℕ) (r s : List (List ℕ)) → BeginsWithOption ws f v r → BeginsWithOption ws g w s → AreSame f g v w r s
one_option ws f g v w r s (apart is value) b =
    let a = is_apart g f (v ∷ r) w s (subst (λ (x : List (List ℕ)). BeginsWithOption x g w s) is b) in
    let e : v ∷ r ≡ w ∷ s = a.words in
    record { flag = sym a.flag; value = cc; rest = cc }
one_option ws f g v w r s (joined is value) b =
    let a = is_joined g f (codes "=" ++ v) r w s (λ e. cc) (subst (λ (x : List (List ℕ)). BeginsWithOption x g w s) is b) in
    record { flag = sym a.flag; value = append_cancel_left (codes "=") v w a.end_is; rest = a.rest }

-- ---- all options

pub gives_rest : (ws : List (List ℕ)) (f : Flag) (v : List ℕ) (r : List (List ℕ)) (before after : Values) → BeginsWithOption ws f v r
    → Gives ws before after → (value_at f before ≡ None) × Gives r (with_value f v before) after
gives_rest ws f v r before after b (no_more values) = absurd (none_begins f v r b)
gives_rest ws f v r before after b (one_more words g w s first last c free gives) =
    let same = one_option ws f g v w r s b c in
    (rw same.flag free, rw (same.flag, same.value, same.rest) gives)

-- ---- the line

-- a text spells one number
one_number : (given : Option (List ℕ)) (m n : ℕ) → SpellsTurns given m → SpellsTurns given n → m ≡ n
one_number None m n one other = one ∙ sym other
one_number (Some text) m n one other = decimal_injective m n (omega (arith, one.1)) (omega (arith, other.1)) (sym one.0 ∙ other.0)

-- a text spells one number of workers
one_workers : (given : Option (List ℕ)) (m n : ℕ) → SpellsWorkers given m → SpellsWorkers given n → m ≡ n
one_workers None m n one other = one ∙ sym other
one_workers (Some text) m n one other = decimal_injective m n (omega (arith, one.1)) (omega (arith, other.1)) (sym one.0 ∙ other.0)

-- and one number of connections, or none
pub one_connections : (given : Option (List ℕ)) (c d : Option ℕ) → SpellsConnections given c → SpellsConnections given d → c ≡ d
one_connections None c d one other = one ∙ sym other
one_connections (Some text) c d one other =
    let same : one.0 ≡ other.0 = decimal_injective one.0 other.0 (omega (arith, one.4)) (omega (arith, other.4)) (sym one.2 ∙ other.2) in
    one.1 ∙ ap (λ (n : ℕ). Some n) same ∙ sym other.1

one_listening : (l k : Listening) → Some l.place ≡ Some k.place → l.workers ≡ k.workers → l.connections ≡ k.connections → l ≡ k
one_listening l k place workers connections =
    let p : l.place ≡ k.place = cc in
    ap (λ (x : List ℕ). record l { place = x }) p
    ∙ ap (λ (n : ℕ). record { place = k.place; workers = n; connections = l.connections }) workers
    ∙ ap (λ (o : Option ℕ). record k { connections = o }) connections

-- values name one definition
pub one_source : (a b : Source) (v : Values) → HasSource a v → HasSource b v → a ≡ b
one_source built_in built_in v one other = refl
one_source built_in (by_rules d s) v one other = let file : None ≡ Some d = sym one.0 ∙ other.0 in cc
one_source built_in (by_converter d h u) v one other = let file : None ≡ Some d = sym one.0 ∙ other.0 in cc
one_source (by_rules c r) built_in v one other = let file : Some c ≡ None = sym one.0 ∙ other.0 in cc
one_source (by_rules c r) (by_rules d s) v one other =
    let file : Some c ≡ Some d = sym one.0 ∙ other.0 in
    let second : Some r ≡ Some s = sym one.1 ∙ other.1 in
    cc
one_source (by_rules c r) (by_converter d h u) v one other = let second : Some r ≡ None = sym one.1 ∙ other.1 in cc
one_source (by_converter c g t) built_in v one other = let file : Some c ≡ None = sym one.0 ∙ other.0 in cc
one_source (by_converter c g t) (by_rules d s) v one other = let second : None ≡ Some s = sym one.1 ∙ other.1 in cc
one_source (by_converter c g t) (by_converter d h u) v one other =
    let file : Some c ≡ Some d = sym one.0 ∙ other.0 in
    let version : Some g ≡ Some h = sym one.2 ∙ other.2 in
    let address : Some t ≡ Some u = sym one.3 ∙ other.3 in
    cc

-- and a word and values one task
one_task : (t u : Task) (v : Values) → task_word t ≡ task_word u → HasTarget t v → HasTarget u v → t ≡ u
one_task (convert a) (convert b) v e one other = let to_is : Some a ≡ Some b = sym one ∙ other in cc
one_task (convert a) review v e one other = let to_is : Some a ≡ None = sym one ∙ other in cc
one_task review (convert b) v e one other = let to_is : None ≡ Some b = sym one ∙ other in cc
one_task review review v e one other = refl

one_document : (c r d s : List ℕ) (t u : Task) → by_rules c r ≡ by_rules d s → t ≡ u → task c r t ≡ task d s u
one_document c r d s t u source same = cc

-- the words of a task are longer than `pipe` and `serve`
long_task : (t : Task) → 5 < length (task_word t)
long_task (convert to) = omega arith
long_task review = omega arith

no_task : (t : Task) (w : List ℕ) → length w ≤ 5 → w ≡ task_word t → ⊥
no_task t w short e = let same : length w ≡ length (task_word t) = ap (λ (x : List ℕ). length x) e in omega (arith, short, same, long_task t)

pub one_line : (a b : Line) (v : Values) → command_word a ≡ command_word b → HasValues a v → HasValues b v → a ≡ b
one_line (pipe s m) (pipe t n) v e one other =
    ap (λ (x : Source). pipe x m) (one_source s t v one.0 other.0) ∙ ap (λ (k : ℕ). pipe t k) (one_number v.turns m n one.2 other.2)
one_line (pipe s m) (task d r t) v e one other = absurd (no_task t (codes "pipe") (omega arith) e)
one_line (pipe s m) (drill x n) v e one other = absurd other
one_line (pipe s m) (serve t l) v e one other = let listen : None ≡ Some l.place = sym one.3.0 ∙ other.4 in cc
one_line (pipe s m) (remote k u) v e one other = absurd other
one_line (task c r t) (pipe s n) v e one other = absurd (no_task t (codes "pipe") (omega arith) (sym e))
one_line (task c r t) (task d s u) v e one other =
    one_document c r d s t u (one_source (by_rules c r) (by_rules d s) v one.0 other.0) (one_task t u v e one.1 other.1)
one_line (task c r t) (drill x n) v e one other = absurd other
one_line (task c r t) (serve s l) v e one other = absurd (no_task t (codes "serve") (omega arith) (sym e))
one_line (task c r t) (remote k u) v e one other = absurd other
one_line (drill x n) b v e one other = absurd one
one_line (serve s l) (pipe t n) v e one other = let listen : Some l.place ≡ None = sym one.4 ∙ other.3.0 in cc
one_line (serve s l) (task d r t) v e one other = absurd (no_task t (codes "serve") (omega arith) e)
one_line (serve s l) (drill x n) v e one other = absurd other
one_line (serve s l) (serve t k) v e one other =
    ap (λ (x : Source). serve x l) (one_source s t v one.0 other.0)
    ∙ ap (λ (x : Listening). serve t x) (one_listening l k (sym one.4 ∙ other.4) (one_workers v.workers l.workers k.workers one.5 other.5) (one_connections v.connections l.connections k.connections one.6 other.6))
one_line (serve s l) (remote k u) v e one other = absurd other
one_line (remote k u) b v e one other = absurd one

-- a command that isn't `serve` has none of its options
pub none_unserved : (w : List ℕ) (v : Values) → (w ≡ codes "serve" → ⊥) → (IsUnserved v → ⊥) → (line : Line) → w ≡ command_word line → HasValues line v → ⊥
none_unserved w v other some (pipe source turns) e has = some has.3
none_unserved w v other some (task c r t) e has = some has.3
none_unserved w v other some (drill start count) e has = has
none_unserved w v other some (serve source l) e has = other e
none_unserved w v other some (remote k url) e has = has

-- values that name no definition are those of no line
pub no_source : (w : List ℕ) (v : Values) → ((source : Source) → HasSource source v → ⊥) → (line : Line) → w ≡ command_word line → HasValues line v → ⊥
no_source w v none (pipe source turns) e has = none source has.0
no_source w v none (task c r t) e has = none (by_rules c r) has.0
no_source w v none (drill start count) e has = has
no_source w v none (serve source l) e has = none source has.0
no_source w v none (remote k url) e has = has

-- ---- words in memory

pub map_length : (ws : List (String Global)) → length (map string_bytes ws) ≡ length ws
map_length [] = refl
map_length (x ∷ ws) = ap (λ n. suc n) (map_length ws)

-- nothing stands behind the name
pub no_end : (f : Flag) (end : List ℕ) (ws : List (List ℕ)) (o : Option Taken) → length end ≡ 0 → TakesFirst (flag_text f ∷ ws) o → TakesFirst ((flag_text f ++ end) ∷ ws) o
no_end f [] ws o n first = subst (λ (x : List ℕ). TakesFirst (x ∷ ws) o) (flag_alone f) first
no_end f (b ∷ bs) ws o n first = absurd (omega (arith, n))

pub first_word : (ws : List (String Global)) (first : String Global) (w : List ℕ) → 1 ≤ length ws → first ≡ get_or ws 0 first → w ≡ string_bytes first → map string_bytes ws ≡ w ∷ map string_bytes (take (length ws - 1) (drop 1 ws))
first_word [] first w n is spelled = absurd (omega (arith, n))
first_word (x ∷ ws) first w n is spelled =
    let k : length (x ∷ ws) - 1 ≡ length ws = omega arith in
    let t : take (length (x ∷ ws) - 1) ws ≡ ws = ap (λ (i : ℕ). take i ws) k ∙ take-length ws in
    let h : string_bytes x ≡ w = ap string_bytes (sym is) ∙ sym spelled in
    ap (λ (b : List ℕ). b ∷ map string_bytes ws) h ∙ ap (λ (y : List (String Global)). w ∷ map string_bytes y) (sym t)

-- the first word begins with no option's name
pub no_flag : (w : List ℕ) (ws all : List (List ℕ)) → all ≡ w ∷ ws → ((f : Flag) (end : List ℕ) → w ≢ flag_text f ++ end)
    → (f : Flag) (v : List ℕ) (r : List (List ℕ)) → BeginsWithOption all f v r → ⊥
no_flag w ws all is none f v r begins =
    let e = front w ws f v r (subst (λ (x : List (List ℕ)). BeginsWithOption x f v r) is begins) in
    none f e.0 e.1

pub no_words : (ws : List (String Global)) (values : Values) → length ws < 1 → Gives (map string_bytes ws) values values
no_words [] values n = no_more values
no_words (x ∷ ws) values n = absurd (omega (arith, n))

pub none_given : (ws : List (List ℕ)) (before after : Values) → 1 ≤ length ws → ((f : Flag) (v : List ℕ) (r : List (List ℕ)) → BeginsWithOption ws f v r → ⊥)
    → Gives ws before after → ⊥
none_given ws before after n none (no_more values) = omega (arith, n)
none_given ws before after n none (one_more words f v r first last begins free gives) = none f v r begins

pub gives_more : (ws : List (List ℕ)) (f : Flag) (v : List ℕ) (r : List (List ℕ)) (before more : Values) (o : Option Given) → BeginsWithOption ws f v r
    → value_at f before ≡ None → more ≡ with_value f v before → GivesOne r more o → GivesOne ws before o
gives_more ws f v r before more None begins free is gives = λ after g.
    gives after (rw is (gives_rest ws f v r before after begins g).1)
gives_more ws f v r before more (Some g) begins free is gives =
    one_more ws f v r before (values_in g) begins free (subst (λ (x : Values). Gives r x (values_in g)) is gives)

-- a line's words are its command and its options
pub line_found : (first : List ℕ) (rest : List (List ℕ)) (values : Values) (o : Option Command) (line : Line)
    → ((after : Values) → Gives rest no_values after → after ≡ values) → IsCommand first values o → HasOptions (first ∷ rest) line → MatchOption o ⊥ (λ c. line ≡ line_of c)
line_found first rest values None line one command l =
    let same : first ∷ rest ≡ command_word line ∷ l.options = l.command in
    let e : first ≡ command_word line = cc in
    let t : l.options ≡ rest = cc in
    let g : Gives rest no_values l.values = rw (sym t) l.gives in
    command line e (subst (λ (v : Values). HasValues line v) (one l.values g) l.has)
line_found first rest values (Some c) line one command l =
    let same : first ∷ rest ≡ command_word line ∷ l.options = l.command in
    let e : first ≡ command_word line = cc in
    let t : l.options ≡ rest = cc in
    let g : Gives rest no_values l.values = rw (sym t) l.gives in
    one_line line (line_of c) values (sym e ∙ command.0) (subst (λ (v : Values). HasValues line v) (one l.values g) l.has) command.1

-- words give one end
pub one_end : (ws : List (List ℕ)) (before one other : Values) → Gives ws before one → Gives ws before other → other ≡ one
one_end ws before one other (no_more values) (no_more others) = refl
one_end ws before one other (no_more values) (one_more words f v r first last begins free gives) = absurd (none_begins f v r begins)
one_end ws before one other (one_more words f v r first last begins free gives) g =
    one_end r (with_value f v before) one other gives (gives_rest ws f v r before other begins g).1

-- ---- drills

-- a drill has no options
pub no_drill : (rest : List (List ℕ)) (line : Line) → HasOptions (codes "drill" ∷ rest) line → ⊥
no_drill rest (pipe source turns) l =
    let e : codes "drill" ≡ codes "pipe" = let same : codes "drill" ∷ rest ≡ codes "pipe" ∷ l.options = l.command in cc in
    let first : 100 ≡ 112 = ap (λ (s : List ℕ). get_or s 0 0) e in omega (arith, first)
no_drill rest (task c r (convert to)) l =
    let e : codes "drill" ≡ codes "convert" = let same : codes "drill" ∷ rest ≡ codes "convert" ∷ l.options = l.command in cc in
    let first : 100 ≡ 99 = ap (λ (s : List ℕ). get_or s 0 0) e in omega (arith, first)
no_drill rest (task c r review) l =
    let e : codes "drill" ≡ codes "review" = let same : codes "drill" ∷ rest ≡ codes "review" ∷ l.options = l.command in cc in
    let first : 100 ≡ 114 = ap (λ (s : List ℕ). get_or s 0 0) e in omega (arith, first)
no_drill rest (drill start count) l = l.has
no_drill rest (remote k url) l = l.has
no_drill rest (serve source s) l =
    let e : codes "drill" ≡ codes "serve" = let same : codes "drill" ∷ rest ≡ codes "serve" ∷ l.options = l.command in cc in
    let first : 100 ≡ 115 = ap (λ (s : List ℕ). get_or s 0 0) e in omega (arith, first)

-- and another command has no two numbers
pub only_drill : (first : List ℕ) (rest : List (List ℕ)) (line : Line) → HasNumbers (first ∷ rest) line → first ≡ codes "drill"
only_drill first rest line h =
    let same : first ∷ rest ≡ codes "drill" ∷ decimal h.start ∷ decimal h.count ∷ [] = h.spelled in cc

-- two numbers are one drill
pub same_drill : (a b : List ℕ) (x n : ℕ) (line : Line) → a ≡ decimal x → x ≤ 9223372036854775807 → b ≡ decimal n → n ≤ MOST_STEPS → HasNumbers (codes "drill" ∷ a ∷ b ∷ []) line → line ≡ drill x n
same_drill a b x n line start low count few h =
    h.is ∙ ap (λ (y : ℕ). drill y h.count) (sym first) ∙ ap (λ (m : ℕ). drill x m) (sym second)
  where
    words : codes "drill" ∷ a ∷ b ∷ [] ≡ codes "drill" ∷ decimal h.start ∷ decimal h.count ∷ []
    words = h.spelled

    first : x ≡ h.start
    first = let spelled : a ≡ decimal h.start = cc in decimal_injective x h.start (omega (arith, low)) (omega (arith, h.low)) (sym start ∙ spelled)

    second : n ≡ h.count
    second = let spelled : b ≡ decimal h.count = cc in decimal_injective n h.count (omega (arith, few)) (omega (arith, h.few)) (sym count ∙ spelled)

-- how many words stand behind the command
pub no_numbers : (ws : List (String Global)) (line : Line) → length ws < 1 → HasNumbers (codes "drill" ∷ map string_bytes ws) line → ⊥
no_numbers [] line few h = let same : codes "drill" ∷ [] ≡ codes "drill" ∷ decimal h.start ∷ decimal h.count ∷ [] = h.spelled in cc
no_numbers (x ∷ ws) line few h = omega (arith, few)

pub no_count : (a : List ℕ) (ws : List (String Global)) (line : Line) → length ws < 1 → HasNumbers (codes "drill" ∷ a ∷ map string_bytes ws) line → ⊥
no_count a [] line few h = let same : codes "drill" ∷ a ∷ [] ≡ codes "drill" ∷ decimal h.start ∷ decimal h.count ∷ [] = h.spelled in cc
no_count a (x ∷ ws) line few h = omega (arith, few)

pub no_third : (a b : List ℕ) (ws : List (String Global)) (line : Line) → 1 ≤ length ws → HasNumbers (codes "drill" ∷ a ∷ b ∷ map string_bytes ws) line → ⊥
no_third a b [] line some h = omega (arith, some)
no_third a b (x ∷ ws) line some h =
    let same : codes "drill" ∷ a ∷ b ∷ string_bytes x ∷ map string_bytes ws ≡ codes "drill" ∷ decimal h.start ∷ decimal h.count ∷ [] = h.spelled in cc

pub none_behind : (ws : List (String Global)) → length ws < 1 → map string_bytes ws ≡ []
none_behind [] few = refl
none_behind (x ∷ ws) few = absurd (omega (arith, few))

-- a line of the same words
pub only_line : (o : Option Command) (ws us : List (List ℕ)) → ws ≡ us → ((line : Line) → HasNumbers us line → MatchOption o ⊥ (λ c. line ≡ line_of c))
    → (line : Line) → HasNumbers ws line → MatchOption o ⊥ (λ c. line ≡ line_of c)
only_line o ws us same only line h = only line (subst (λ (x : List (List ℕ)). HasNumbers x line) same h)

pub is_line : (o : Option Command) (ws us : List (List ℕ)) → ws ≡ us → IfSome o (λ c. HasNumbers us (line_of c)) → IfSome o (λ c. HasNumbers ws (line_of c))
is_line None ws us same is = tt
is_line (Some c) ws us same is = subst (λ (x : List (List ℕ)). HasNumbers x (line_of c)) (sym same) is

-- ---- a command and the words behind it

pub drill_is : (o : Option Command) (w : List ℕ) (ws : List (List ℕ)) → w ≡ codes "drill" → IfSome o (λ c. HasNumbers (codes "drill" ∷ ws) (line_of c)) → IfSome o (λ c. Within (w ∷ ws) (line_of c))
drill_is None w ws same is = tt
drill_is (Some c) w ws same is = inr (subst (λ (x : List ℕ). HasNumbers (x ∷ ws) (line_of c)) (sym same) is)

pub drill_only : (o : Option Command) (w : List ℕ) (ws : List (List ℕ)) → w ≡ codes "drill"
    → ((line : Line) → HasNumbers (codes "drill" ∷ ws) line → MatchOption o ⊥ (λ c. line ≡ line_of c)) → (line : Line) → Within (w ∷ ws) line → MatchOption o ⊥ (λ c. line ≡ line_of c)
drill_only o w ws same only line (inl l) = absurd (no_drill ws line (subst (λ (x : List ℕ). HasOptions (x ∷ ws) line) same l))
drill_only o w ws same only line (inr h) = only line (subst (λ (x : List ℕ). HasNumbers (x ∷ ws) line) same h)

pub options_are : (o : Option Command) (ws : List (List ℕ)) → IfSome o (λ c. HasOptions ws (line_of c)) → IfSome o (λ c. Within ws (line_of c))
options_are None ws is = tt
options_are (Some c) ws is = inl is

pub options_only : (o : Option Command) (w : List ℕ) (ws : List (List ℕ)) → (w ≡ codes "drill" → ⊥)
    → ((line : Line) → HasOptions (w ∷ ws) line → MatchOption o ⊥ (λ c. line ≡ line_of c)) → (line : Line) → Within (w ∷ ws) line → MatchOption o ⊥ (λ c. line ≡ line_of c)
options_only o w ws other only line (inl l) = only line l
options_only o w ws other only line (inr h) = absurd (other (only_drill w ws line h))

-- ---- an address

-- the third byte of a command's word tells what is done at a place
remote_by : ℕ → Remote
remote_by third = if third == 103 then migrate else (if third == 109 then dump else load)

named_remote : (k : Remote) → remote_by (get_or (remote_word k) 2 0) ≡ k
unfolding remote_by
named_remote migrate = refl
named_remote dump = refl
named_remote load = refl

same_remote : (j k : Remote) → remote_word j ≡ remote_word k → j ≡ k
same_remote j k e = sym (named_remote j) ∙ ap (λ (w : List ℕ). remote_by (get_or w 2 0)) e ∙ named_remote k

-- that byte is lower than those of the lines with options, and the fifth one lower than that of a drill
low_third : (k : Remote) → get_or (remote_word k) 2 0 < 110
low_third migrate = omega arith
low_third dump = omega arith
low_third load = omega arith

pub low_fifth : (k : Remote) → get_or (remote_word k) 4 0 < 108
low_fifth migrate = omega arith
low_fifth dump = omega arith
low_fifth load = omega arith

-- no other line begins with the word of one that works at an address
pub no_within : (k : Remote) (rest : List (List ℕ)) (line : Line) → Within (remote_word k ∷ rest) line → ⊥
no_within k rest (pipe source turns) (inl l) =
    let e : remote_word k ≡ codes "pipe" = let same : remote_word k ∷ rest ≡ codes "pipe" ∷ l.options = l.command in cc in
    let third : get_or (remote_word k) 2 0 ≡ 112 = ap (λ (s : List ℕ). get_or s 2 0) e in omega (arith, third, low_third k)
no_within k rest (task c r (convert to)) (inl l) =
    let e : remote_word k ≡ codes "convert" = let same : remote_word k ∷ rest ≡ codes "convert" ∷ l.options = l.command in cc in
    let third : get_or (remote_word k) 2 0 ≡ 110 = ap (λ (s : List ℕ). get_or s 2 0) e in omega (arith, third, low_third k)
no_within k rest (task c r review) (inl l) =
    let e : remote_word k ≡ codes "review" = let same : remote_word k ∷ rest ≡ codes "review" ∷ l.options = l.command in cc in
    let third : get_or (remote_word k) 2 0 ≡ 118 = ap (λ (s : List ℕ). get_or s 2 0) e in omega (arith, third, low_third k)
no_within k rest (drill start count) (inl l) = l.has
no_within k rest (remote j url) (inl l) = l.has
no_within k rest (serve source s) (inl l) =
    let e : remote_word k ≡ codes "serve" = let same : remote_word k ∷ rest ≡ codes "serve" ∷ l.options = l.command in cc in
    let third : get_or (remote_word k) 2 0 ≡ 114 = ap (λ (s : List ℕ). get_or s 2 0) e in omega (arith, third, low_third k)
no_within k rest line (inr h) =
    let e : remote_word k ≡ codes "drill" = let same : remote_word k ∷ rest ≡ codes "drill" ∷ decimal h.start ∷ decimal h.count ∷ [] = h.spelled in cc in
    let fifth : get_or (remote_word k) 4 0 ≡ 108 = ap (λ (s : List ℕ). get_or s 4 0) e in omega (arith, fifth, low_fifth k)

-- and such a line begins with no other word
pub only_remote : (first : List ℕ) (rest : List (List ℕ)) (line : Line) → (h : HasAddress (first ∷ rest) line) → first ≡ remote_word h.work
only_remote first rest line h = let same : first ∷ rest ≡ remote_word h.work ∷ h.url ∷ [] = h.spelled in cc

-- one address is one line
pub same_address : (k : Remote) (url : List ℕ) (line : Line) → HasAddress (remote_word k ∷ url ∷ []) line → line ≡ remote k url
same_address k url line h =
    let words : remote_word k ∷ url ∷ [] ≡ remote_word h.work ∷ h.url ∷ [] = h.spelled in
    let word : remote_word h.work ≡ remote_word k = cc in
    let same : h.url ≡ url = cc in
    h.is ∙ ap (λ (j : Remote). remote j h.url) (same_remote h.work k word) ∙ ap (λ (u : List ℕ). remote k u) same

-- what isn't a value is no address
pub no_address : (k : Remote) (url : List ℕ) (line : Line) → (IsValue url → ⊥) → HasAddress (remote_word k ∷ url ∷ []) line → ⊥
no_address k url line bad h =
    let words : remote_word k ∷ url ∷ [] ≡ remote_word h.work ∷ h.url ∷ [] = h.spelled in
    let same : h.url ≡ url = cc in
    bad (subst IsValue same h.value)

-- one word stands behind the command
pub one_word : (k : Remote) (ws us : List (List ℕ)) (line : Line) → ws ≡ us → HasAddress (remote_word k ∷ ws) line → length us ≡ 1
one_word k ws us line is h =
    let words : remote_word k ∷ ws ≡ remote_word h.work ∷ h.url ∷ [] = h.spelled in
    let same : us ≡ h.url ∷ [] = cc in
    ap (λ (l : List (List ℕ)). length l) same

pub address_is : (o : Option Command) (k : Remote) (w : List ℕ) (ws : List (List ℕ)) → w ≡ remote_word k → IfSome o (λ c. HasAddress (remote_word k ∷ ws) (line_of c)) → IfSome o (λ c. IsLine (w ∷ ws) (line_of c))
address_is None k w ws same is = tt
address_is (Some c) k w ws same is = inr (inr (subst (λ (x : List ℕ). HasAddress (x ∷ ws) (line_of c)) (sym same) is))

pub address_only : (o : Option Command) (k : Remote) (w : List ℕ) (ws : List (List ℕ)) → w ≡ remote_word k
    → ((line : Line) → HasAddress (remote_word k ∷ ws) line → MatchOption o ⊥ (λ c. line ≡ line_of c)) → (line : Line) → IsLine (w ∷ ws) line → MatchOption o ⊥ (λ c. line ≡ line_of c)
address_only o k w ws same only line (inl l) = absurd (no_within k ws line (inl (subst (λ (x : List ℕ). HasOptions (x ∷ ws) line) same l)))
address_only o k w ws same only line (inr (inl h)) = absurd (no_within k ws line (inr (subst (λ (x : List ℕ). HasNumbers (x ∷ ws) line) same h)))
address_only o k w ws same only line (inr (inr a)) = only line (subst (λ (x : List ℕ). HasAddress (x ∷ ws) line) same a)

pub within_is : (o : Option Command) (ws : List (List ℕ)) → IfSome o (λ c. Within ws (line_of c)) → IfSome o (λ c. IsLine ws (line_of c))
within_is None ws is = tt
within_is (Some c) ws (inl l) = inl l
within_is (Some c) ws (inr h) = inr (inl h)

pub within_only : (o : Option Command) (w : List ℕ) (ws : List (List ℕ)) → ((k : Remote) → w ≡ remote_word k → ⊥)
    → ((line : Line) → Within (w ∷ ws) line → MatchOption o ⊥ (λ c. line ≡ line_of c)) → (line : Line) → IsLine (w ∷ ws) line → MatchOption o ⊥ (λ c. line ≡ line_of c)
within_only o w ws other only line (inl l) = only line (inl l)
within_only o w ws other only line (inr (inl h)) = only line (inr h)
within_only o w ws other only line (inr (inr a)) = absurd (other a.work (only_remote w ws line a))

-- words in memory are a line as the same words are
pub line_is : (o : Option Command) (ws us : List (List ℕ)) → ws ≡ us → IfSome o (λ c. IsLine us (line_of c)) → IfSome o (λ c. IsLine ws (line_of c))
line_is None ws us same is = tt
line_is (Some c) ws us same is = subst (λ (x : List (List ℕ)). IsLine x (line_of c)) (sym same) is

pub line_only : (o : Option Command) (ws us : List (List ℕ)) → ws ≡ us → ((line : Line) → IsLine us line → MatchOption o ⊥ (λ c. line ≡ line_of c))
    → (line : Line) → IsLine ws line → MatchOption o ⊥ (λ c. line ≡ line_of c)
line_only o ws us same only line l = only line (subst (λ (x : List (List ℕ)). IsLine x line) same l)

-- no words are no line
pub no_line : (ws : List (String Global)) (words : List (List ℕ)) (line : Line) → map string_bytes ws ≡ words → length ws < 1 → IsLine words line → ⊥
no_line [] words line same few (inl l) = let none : [] ≡ command_word line ∷ l.options = same ∙ l.command in cc
no_line [] words line same few (inr (inl h)) = let none : [] ≡ codes "drill" ∷ decimal h.start ∷ decimal h.count ∷ [] = same ∙ h.spelled in cc
no_line [] words line same few (inr (inr a)) = let none : [] ≡ remote_word a.work ∷ a.url ∷ [] = same ∙ a.spelled in cc
no_line (x ∷ ws) words line same few l = omega (arith, few)
