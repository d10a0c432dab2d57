-- What the types of the code stand for: a line, options, and one option taken of words.
use Rattle.std.specs.Prelude.{◌≡◌, ◌⊎◌, ℕ, List, Option, MatchOption, option_map, map, string_bytes}
use Rattle.command_lines.specs.declared.source.Source.{Source as SourceCode}
use Rattle.command_lines.specs.declared.source.Source.TheVariants as sources
use Rattle.command_lines.specs.declared.words.Task.{Task as TaskCode}
use Rattle.command_lines.specs.declared.words.Task.TheVariants as tasks
use Rattle.command_lines.specs.declared.service.Listening.{Listening as ListeningCode}
use Rattle.command_lines.specs.declared.words.Command.{Command}
use Rattle.command_lines.specs.declared.words.Command.TheVariants as commands
use Rattle.command_lines.specs.declared.words.Remote.{Remote as RemoteCode}
use Rattle.command_lines.specs.declared.words.Remote.TheVariants as remotes
use Rattle.command_lines.specs.declared.words.Flag.{Flag as FlagCode}
use Rattle.command_lines.specs.declared.words.Flag.TheVariants as flags
use Rattle.command_lines.specs.declared.words.Taken.{Taken}
use Rattle.command_lines.specs.declared.words.Given.{Given}
use Rattle.command_lines.specs.Lines.{Source, built_in, by_rules, by_converter, Task, convert, review, Remote, migrate, dump, load, Line, Listening, pipe, task, drill, serve, remote, Flag, crd_flag, rules_flag, hub_flag, converter_flag, to_flag, turns_flag, listen_flag, workers_flag, connections_flag, BeginsWithOption, Values, Gives, command_word, HasSource, HasValues, HasOptions, HasNumbers}

abbrev pub source_of : SourceCode → Source
source_of sources.BuiltIn = built_in
source_of (sources.Rules crd rules) = by_rules crd.now rules.now
source_of (sources.Converter crd hub url) = by_converter crd.now hub.now url.now

abbrev pub task_of : TaskCode → Task
task_of (tasks.Convert to) = convert to.now
task_of tasks.Review = review

abbrev pub listening_of : ListeningCode → Listening
listening_of l = record { place = l.place.now; workers = l.workers; connections = l.connections }

abbrev pub line_of : Command → Line
line_of (commands.Pipe source turns) = pipe (source_of source) turns
line_of (commands.Task crd rules t) = task crd.now rules.now (task_of t)
line_of (commands.Drill start count) = drill start count
line_of (commands.Serve source l) = serve (source_of source) (listening_of l)
line_of (commands.Migrate url) = remote migrate url.now
line_of (commands.Dump url) = remote dump url.now
line_of (commands.Load url) = remote load url.now

abbrev pub remote_in : RemoteCode → Remote
remote_in remotes.Migrate = migrate
remote_in remotes.Dump = dump
remote_in remotes.Load = load

abbrev pub flag_in : FlagCode → Flag
flag_in flags.Crd = crd_flag
flag_in flags.Rules = rules_flag
flag_in flags.Hub = hub_flag
flag_in flags.Converter = converter_flag
flag_in flags.To = to_flag
flag_in flags.Turns = turns_flag
flag_in flags.Listen = listen_flag
flag_in flags.Workers = workers_flag
flag_in flags.Connections = connections_flag

abbrev pub values_in : Given → Values
values_in g = record { crd = option_map (λ x. x.now) g.crd; rules = option_map (λ x. x.now) g.rules; hub = option_map (λ x. x.now) g.hub; converter = option_map (λ x. x.now) g.converter; to = option_map (λ x. x.now) g.to; turns = option_map (λ x. x.now) g.turns; listen = option_map (λ x. x.now) g.listen; workers = option_map (λ x. x.now) g.workers; connections = option_map (λ x. x.now) g.connections }

-- the option that the words begin with, and none where nothing is told
abbrev pub TakesFirst : List (List ℕ) → Option Taken → Type 0
TakesFirst words o = MatchOption o
    ((f : Flag) (value : List ℕ) (rest : List (List ℕ)) → BeginsWithOption words f value rest → ⊥)
    (λ t. BeginsWithOption words (flag_in t.flag) t.value.now (map string_bytes t.rest.now))

-- the options that the words are, behind those values, and none where nothing is told
abbrev pub GivesOne : List (List ℕ) → Values → Option Given → Type 0
GivesOne words before o = MatchOption o
    ((after : Values) → Gives words before after → ⊥)
    (λ g. Gives words before (values_in g))

-- the line of that command with those options, and none where nothing is told
abbrev pub IsCommand : List ℕ → Values → Option Command → Type 0
IsCommand word values o = MatchOption o
    ((line : Line) → word ≡ command_word line → HasValues line values → ⊥)
    (λ c. (word ≡ command_word (line_of c)) × HasValues (line_of c) values)

-- the definition that the values name, and none where nothing is told
abbrev pub IsSource : Values → Option SourceCode → Type 0
IsSource values o = MatchOption o ((source : Source) → HasSource source values → ⊥) (λ s. HasSource (source_of s) values)

-- the words are this line, which doesn't work on a server from outside
abbrev pub Within : List (List ℕ) → Line → Type 0
Within words line = HasOptions words line ⊎ HasNumbers words line
