-- The lines of the program, and the words that they are.
use Rattle.std.specs.Prelude.{◌≡◌, ◌≢◌, ◌≤◌, ◌<◌, ◌^◌, ◌⊎◌, ◌++◌, ℕ, List, [], ◌∷◌, Option, None, Some, codes, decimal}
use Rattle.command_lines.specs.declared.turns.TheConstants.{MOST_TURNS}
use Rattle.command_lines.specs.declared.numbers.TheConstants.{MOST_STEPS}
use Rattle.command_lines.specs.declared.service.TheConstants.{USUAL_WORKERS, MOST_WORKERS, MOST_CONNECTIONS}

-- Where the definition of a line comes from: it is built in; it is that of the file `crd`, with the rules of conversion of another; or it is that
-- of a file with the version of the name `hub` as its hub, and its objects are turned by the converter at the address `url`.
pub data Source : Type 0 where
  built_in : Source
  by_rules : (crd rules : List ℕ) → Source
  by_converter : (crd hub url : List ℕ) → Source

-- what is done with one document
pub data Task : Type 0 where
  -- it is converted to the version of this name
  convert : List ℕ → Task
  -- it is a review, which is answered
  review : Task

-- what is done with the objects that a server lists at a place
pub data Remote : Type 0 where
  -- each is put back
  migrate : Remote
  -- each is written, as a line
  dump : Remote
  -- each line of the input is posted, as a new one
  load : Remote

-- where connections are answered, with so many workers beside them, and so many of them where a number is given
pub record Listening : Type 0 where
  pub place : List ℕ
  pub workers : ℕ
  pub connections : Option ℕ

pub data Line : Type 0 where
  -- answers requests by a definition, and takes so many turns of a worker after each answer
  pipe : Source → ℕ → Line
  -- reads one document and writes one line, by the definition of one file with the rules of another
  task : (crd rules : List ℕ) → Task → Line
  -- takes so many steps, which are drawn from the state of the first number on
  drill : ℕ → ℕ → Line
  -- answers connections by a definition
  serve : Source → Listening → Line
  -- works on a server from outside, at the place of this address
  remote : Remote → List ℕ → Line

-- ---- options

pub data Flag : Type 0 where
  crd_flag : Flag
  rules_flag : Flag
  hub_flag : Flag
  converter_flag : Flag
  to_flag : Flag
  turns_flag : Flag
  listen_flag : Flag
  workers_flag : Flag
  connections_flag : Flag

abbrev pub flag_text : Flag → List ℕ
flag_text crd_flag = codes "--crd"
flag_text rules_flag = codes "--rules"
flag_text hub_flag = codes "--hub"
flag_text converter_flag = codes "--converter"
flag_text to_flag = codes "--to"
flag_text turns_flag = codes "--turns"
flag_text listen_flag = codes "--listen"
flag_text workers_flag = codes "--workers"
flag_text connections_flag = codes "--connections"

-- the byte `-`
abbrev pub dash : ℕ
dash = 45

-- a value isn't empty, and doesn't begin as an option does
abbrev pub IsValue : List ℕ → Type 0
IsValue [] = ⊥
IsValue (b ∷ bs) = b ≢ dash

-- the words begin with an option and its value, as two words or as one with a `=` between them
pub data BeginsWithOption (words : List (List ℕ)) (flag : Flag) (value : List ℕ) (rest : List (List ℕ)) : Type 0 where
  apart : words ≡ flag_text flag ∷ value ∷ rest → IsValue value → BeginsWithOption words flag value rest
  joined : words ≡ (flag_text flag ++ (codes "=" ++ value)) ∷ rest → IsValue value → BeginsWithOption words flag value rest

-- the value of each option that is given
pub record Values : Type 0 where
  pub crd : Option (List ℕ)
  pub rules : Option (List ℕ)
  pub hub : Option (List ℕ)
  pub converter : Option (List ℕ)
  pub to : Option (List ℕ)
  pub turns : Option (List ℕ)
  pub listen : Option (List ℕ)
  pub workers : Option (List ℕ)
  pub connections : Option (List ℕ)

abbrev pub no_values : Values
no_values = record { crd = None; rules = None; hub = None; converter = None; to = None; turns = None; listen = None; workers = None; connections = None }

abbrev pub value_at : Flag → Values → Option (List ℕ)
value_at crd_flag values = values.crd
value_at rules_flag values = values.rules
value_at hub_flag values = values.hub
value_at converter_flag values = values.converter
value_at to_flag values = values.to
value_at turns_flag values = values.turns
value_at listen_flag values = values.listen
value_at workers_flag values = values.workers
value_at connections_flag values = values.connections

abbrev pub with_value : Flag → List ℕ → Values → Values
with_value crd_flag value values = record values { crd = Some value }
with_value rules_flag value values = record values { rules = Some value }
with_value hub_flag value values = record values { hub = Some value }
with_value converter_flag value values = record values { converter = Some value }
with_value to_flag value values = record values { to = Some value }
with_value turns_flag value values = record values { turns = Some value }
with_value listen_flag value values = record values { listen = Some value }
with_value workers_flag value values = record values { workers = Some value }
with_value connections_flag value values = record values { connections = Some value }

-- behind options of these values the words are options, each of which is given once, and all values are those in the end
pub data Gives : List (List ℕ) → Values → Values → Type 0 where
  no_more : (values : Values) → Gives [] values values
  one_more : (words : List (List ℕ)) (flag : Flag) (value : List ℕ) (rest : List (List ℕ)) (before after : Values)
      → BeginsWithOption words flag value rest → value_at flag before ≡ None → Gives rest (with_value flag value before) after
      → Gives words before after

-- ---- lines

abbrev pub remote_word : Remote → List ℕ
remote_word migrate = codes "migrate"
remote_word dump = codes "dump"
remote_word load = codes "load"

abbrev pub task_word : Task → List ℕ
task_word (convert to) = codes "convert"
task_word review = codes "review"

abbrev pub command_word : Line → List ℕ
command_word (pipe source turns) = codes "pipe"
command_word (task crd rules t) = task_word t
command_word (drill start count) = codes "drill"
command_word (serve source l) = codes "serve"
command_word (remote work url) = remote_word work

-- how many turns are spelled: in decimal digits without leading zeros, up to the most; none where nothing is given
abbrev pub SpellsTurns : Option (List ℕ) → ℕ → Type 0
SpellsTurns None turns = turns ≡ 0
SpellsTurns (Some text) turns = (text ≡ decimal turns) × (turns ≤ MOST_TURNS)

-- how many workers are spelled, up to the most; where nothing is given there are the usual ones
abbrev pub SpellsWorkers : Option (List ℕ) → ℕ → Type 0
SpellsWorkers None workers = workers ≡ USUAL_WORKERS
SpellsWorkers (Some text) workers = (text ≡ decimal workers) × (workers ≤ MOST_WORKERS)

-- how many connections are spelled, one at least and up to the most; no number where nothing is given
abbrev pub SpellsConnections : Option (List ℕ) → Option ℕ → Type 0
SpellsConnections None connections = connections ≡ None
SpellsConnections (Some text) connections = (n : ℕ) × (connections ≡ Some n) × (text ≡ decimal n) × (0 < n) × (n ≤ MOST_CONNECTIONS)

-- no option of `serve` alone is given
abbrev pub IsUnserved : Values → Type 0
IsUnserved v = (v.listen ≡ None) × (v.workers ≡ None) × (v.connections ≡ None)

-- a definition is named by no option, by its file and that of its rules, or by its file, its hub and the converter's address, all three
abbrev pub HasSource : Source → Values → Type 0
HasSource built_in v = (v.crd ≡ None) × (v.rules ≡ None) × (v.hub ≡ None) × (v.converter ≡ None)
HasSource (by_rules crd rules) v = (v.crd ≡ Some crd) × (v.rules ≡ Some rules) × (v.hub ≡ None) × (v.converter ≡ None)
HasSource (by_converter crd hub url) v = (v.crd ≡ Some crd) × (v.rules ≡ None) × (v.hub ≡ Some hub) × (v.converter ≡ Some url)

-- the definition isn't the one that is built in
abbrev pub IsNamed : Source → Type 0
IsNamed built_in = ⊥
IsNamed (by_rules crd rules) = Unit {0}
IsNamed (by_converter crd hub url) = Unit {0}

-- the version that a document is converted to
abbrev pub HasTarget : Task → Values → Type 0
HasTarget (convert to) v = v.to ≡ Some to
HasTarget review v = v.to ≡ None

-- the options that a line has, in any order, are given with these values; a drill has none, and two numbers in their place, and a line that
-- works on a server an address
abbrev pub HasValues : Line → Values → Type 0
HasValues (pipe source turns) v = HasSource source v × (v.to ≡ None) × SpellsTurns v.turns turns × IsUnserved v
HasValues (task crd rules t) v = HasSource (by_rules crd rules) v × HasTarget t v × (v.turns ≡ None) × IsUnserved v
HasValues (drill start count) v = ⊥
HasValues (serve source l) v = HasSource source v × IsNamed source × (v.to ≡ None) × (v.turns ≡ None)
    × (v.listen ≡ Some l.place) × SpellsWorkers v.workers l.workers × SpellsConnections v.connections l.connections
HasValues (remote work url) v = ⊥

-- the words are this line, a command with its options
pub record HasOptions (words : List (List ℕ)) (line : Line) : Type 0 where
  pub options : List (List ℕ)
  pub values : Values
  pub command : words ≡ command_word line ∷ options
  pub gives : Gives options no_values values
  pub has : HasValues line values

-- the words are this line, a drill with its two numbers: in decimal digits without a sign or leading zeros, the first below 2^63
-- and the second up to the most
pub record HasNumbers (words : List (List ℕ)) (line : Line) : Type 0 where
  pub start : ℕ
  pub count : ℕ
  pub is : line ≡ drill start count
  pub spelled : words ≡ codes "drill" ∷ decimal start ∷ decimal count ∷ []
  pub low : start < 2 ^ 63
  pub few : count ≤ MOST_STEPS

-- the words are this line, a command with the address of a place, which is one where the text spells one
pub record HasAddress (words : List (List ℕ)) (line : Line) : Type 0 where
  pub work : Remote
  pub url : List ℕ
  pub is : line ≡ remote work url
  pub spelled : words ≡ remote_word work ∷ url ∷ []
  pub value : IsValue url

-- the words are this line
abbrev pub IsLine : List (List ℕ) → Line → Type 0
IsLine words line = HasOptions words line ⊎ (HasNumbers words line ⊎ HasAddress words line)
