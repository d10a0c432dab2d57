-- Texts that load aren't refused.
use Rattle.std.proofs.Common.{◌≡◌, ◌∙◌, ◌⊎◌, ℕ, ◌<◌, ◌≤◌, List, length, Option, Some, None, inl, inr, ap, sym, subst, arith}
use Rattle.std.specs.Prelude.{IfSome, IsUtf8}
use Rattle.serde_json.specs.Data as serde
use Rattle.kj_value.specs.Json.{Json}
use Rattle.kj_value.specs.Reading.{Reads, IsReading, json_of}
use Rattle.kj_value.specs.Fault.{IsRefusedJson as IsUnreadable}
use Rattle.kj_value.specs.declared.reading.JsonFault.{JsonFault}
use Rattle.kj_value.specs.declared.reading.JsonFault.TheVariants.{NotJson, TooDeep, NotWhole, NoMemory}
use Rattle.kj_value.specs.declared.reading.TheConstants.{MAX_JSON_LEVELS}
use Rattle.edge_io.specs.declared.files.TheConstants.{MOST_FILE_BYTES}
use Rattle.crd_reading.specs.View.{DefinitionView}
use Rattle.crd_reading.specs.First.{first_refusal}
use Rattle.crd_reading.specs.Spelled.{definition_read}
use Rattle.crd_loading.specs.Words.{read_word}
use Rattle.crd_loading.specs.Blame.{Blame, of_definition}
use Rattle.crd_loading.specs.Fits.{rules_blame}
use Rattle.crd_loading.specs.View.{LoadedView}
use Rattle.crd_loading.specs.Load.{IsUnread, Defines, LoadsRules, AreNoRules, Loads, RefusesDefinition, RefusesRules}
use Rattle.crd_loading.specs.declared.loading.Which.{Which}
use Rattle.crd_loading.specs.declared.loading.Which.TheVariants.{Crd, Rules}
use Rattle.crd_loading.specs.Told.{RefusesIn}
use Rattle.crd_meaning.specs.Definition.{Definition, count_of, version_at}
use Rattle.hook_versions.specs.Loads.{HasNoHub, LoadsHook}
use Rattle.hook_versions.specs.Set.{without_rules}
use Rattle.command_lines.specs.Lines.{Source, built_in, by_rules, by_converter}
use Rattle.kubeconv_cmd.specs.Sources.{Loaded, with_rules, with_converter, LoadsSet, IsTaken, Means, IsUnfit, too_long, no_text, RefusesFiles, definition_unfit, rules_unfit, not_loaded, RefusesFile, file_unfit, file_not_loaded, Refuses, IsAddressless}
use Rattle.run_laws.specs.Ran.{IsServed, IsToldBy}

-- ---- bytes that are read

same_data : (bytes : List ℕ) (d e : serde.Data) → IsReading bytes d → IsReading bytes e → d ≡ e
same_data bytes d e a b = let p : Some d ≡ Some e = sym a.1 ∙ b.1 in cc

same_value : (bytes : List ℕ) (m n : ℕ) (j k : Json) → Reads bytes m j → Reads bytes n k → j ≡ k
same_value bytes m n j k a b =
    let p : Some j ≡ Some k = sym a.3 ∙ ap json_of (same_data bytes a.0 b.0 a.1 b.1) ∙ b.3 in cc

readable : (bytes : List ℕ) (j : Json) (w : List ℕ) (f : JsonFault) → Reads bytes MAX_JSON_LEVELS j → IsUnreadable bytes MAX_JSON_LEVELS f → read_word f ≡ Some w → ⊥
unfolding read_word
readable bytes j w NotJson r n e = n r.0 r.1
readable bytes j w TooDeep r n e =
    let deep : MAX_JSON_LEVELS < serde.depth r.0 = subst (λ (d : serde.Data). MAX_JSON_LEVELS < serde.depth d) (same_data bytes n.0 r.0 n.1 r.1) n.2 in
    omega (arith, deep, r.2)
readable bytes j w NotWhole r n e =
    let p : Some j ≡ None = sym r.3 ∙ ap json_of (same_data bytes r.0 n.0 r.1 n.1) ∙ n.3 in cc
readable bytes j w NoMemory r n e = cc

never_unread : (bytes : List ℕ) (j : Json) (b : Blame) → Reads bytes MAX_JSON_LEVELS j → IsUnread bytes b → ⊥
never_unread bytes j b r u = readable bytes j b.why u.fault r u.refused u.why

nothing : (o : Option Blame) (b : Blame) → o ≡ None → o ≡ Some b → ⊥
nothing o b p q = let e : None ≡ Some b = sym p ∙ q in cc

-- ---- a definition

same_definition : (bytes : List ℕ) (d e : DefinitionView) → Defines bytes d → Defines bytes e → d ≡ e
same_definition bytes d e a b =
    a.spelled ∙ ap definition_read (same_value bytes MAX_JSON_LEVELS MAX_JSON_LEVELS a.document b.document a.reads b.reads) ∙ sym b.spelled

never_refused : (bytes : List ℕ) (d : DefinitionView) (b : Blame) → Defines bytes d → RefusesDefinition bytes b → ⊥
never_refused bytes d b a (inl unread) = never_unread bytes a.document b a.reads unread
never_refused bytes d b a (inr bad) =
    nothing (of_definition (first_refusal a.document)) b (ap of_definition a.allowed)
    (ap (λ (j : Json). of_definition (first_refusal j)) (same_value bytes MAX_JSON_LEVELS MAX_JSON_LEVELS a.document bad.document a.reads bad.reads) ∙ bad.refused)

-- ---- rules

no_other_rules : (d e : DefinitionView) (bytes : List ℕ) (l : LoadedView) (b : Blame) → d ≡ e → LoadsRules d bytes l → IsUnread bytes b ⊎ AreNoRules e bytes b → ⊥
no_other_rules d e bytes l b same a (inl unread) = never_unread bytes a.document b a.reads unread
no_other_rules d e bytes l b same a (inr bad) =
    nothing (rules_blame d.versions a.document) b a.allowed
    (ap (λ (x : DefinitionView). rules_blame x.versions a.document) same
    ∙ ap (λ (j : Json). rules_blame e.versions j) (same_value bytes MAX_JSON_LEVELS MAX_JSON_LEVELS a.document bad.document a.reads bad.reads) ∙ bad.refused)

never_no_rules : (crd rules : List ℕ) (l : LoadedView) (b : Blame) → Loads crd rules l → RefusesRules crd rules b → ⊥
never_no_rules crd rules l b a bad =
    no_other_rules a.definition bad.definition rules l b (same_definition crd a.definition bad.definition a.defines bad.defines) a.loads bad.refused

-- ---- files

utf8_of : (bytes : List ℕ) (j : Json) → Reads bytes MAX_JSON_LEVELS j → IsUtf8 bytes
utf8_of bytes j r = r.1.0

-- a text that isn't too long is taken
fit : (told : Option (List ℕ)) (bytes why : List ℕ) → told ≡ Some bytes → length bytes ≤ MOST_FILE_BYTES → IsUtf8 bytes → IsUnfit told why → ⊥
fit told bytes why is short utf8 (too_long says long) =
    let more : MOST_FILE_BYTES < length bytes = subst (λ (o : Option (List ℕ)). IfSome o (λ b. MOST_FILE_BYTES < length b)) is long in omega (arith, short, more)
fit told bytes why is short utf8 (no_text says broken) =
    let none : (length bytes ≤ MOST_FILE_BYTES) × ¬ IsUtf8 bytes = subst (λ (o : Option (List ℕ)). IfSome o (λ b. (length b ≤ MOST_FILE_BYTES) × ¬ IsUtf8 b)) is broken in none.1 utf8

-- what was taken of a file is what it tells
same_text : (told : Option (List ℕ)) (bytes text : List ℕ) → told ≡ Some bytes → IsTaken told text → text ≡ bytes
same_text told bytes text is taken =
    let here : (text ≡ bytes) × IsUtf8 bytes = subst (λ (o : Option (List ℕ)). IfSome o (λ b. (text ≡ b) × IsUtf8 b)) is taken.is in here.0

-- two texts that load aren't refused
never_both : (c r : List ℕ) (d : Definition) (which : Which) (b : Blame) → LoadsSet c r d → RefusesIn c r which b → ⊥
never_both c r d Crd b loads bad = never_refused c loads.loads.definition b loads.loads.defines bad
never_both c r d Rules b loads bad = never_no_rules c r loads.view b loads.loads bad

never_files : (file : List ℕ → Option (List ℕ)) (crd rules name why c r : List ℕ) (d : Definition) → file crd ≡ Some c → file rules ≡ Some r → length c ≤ MOST_FILE_BYTES → length r ≤ MOST_FILE_BYTES
    → LoadsSet c r d → RefusesFiles file crd rules name why → ⊥
never_files file crd rules name why c r d tc tr sc sr loads (definition_unfit is unfit) = fit (file crd) c why tc sc (utf8_of c loads.loads.defines.document loads.loads.defines.reads) unfit
never_files file crd rules name why c r d tc tr sc sr loads (rules_unfit k is taken unfit) = fit (file rules) r why tr sr (utf8_of r loads.loads.loads.document loads.loads.loads.reads) unfit
never_files file crd rules name why c r d tc tr sc sr loads (not_loaded k t which b is ck tk bad says) =
    never_both c r d which b loads (subst (λ (x : List ℕ). RefusesIn x r which b) (same_text (file crd) c k tc ck) (subst (λ (x : List ℕ). RefusesIn k x which b) (same_text (file rules) r t tr tk) bad))

-- nor is one that loads with its hub
names_hub : (c hub : List ℕ) (d : Definition) (b : Blame) → LoadsHook c hub d → HasNoHub c hub b → ⊥
names_hub c hub d b loads none =
    let view : d.view ≡ none.view = ap (λ (x : Definition). x.view) loads.is ∙ same_definition c loads.view none.view loads.defines none.defines in
    let known : d.hub < count_of (without_rules none.view 0) = subst (λ (v : DefinitionView). d.hub < count_of (without_rules v 0)) view loads.known in
    none.unnamed d.hub known (subst (λ (v : DefinitionView). (version_at (without_rules v 0) d.hub).name ≡ hub) view loads.named)

never_file : (file : List ℕ → Option (List ℕ)) (crd hub name why c : List ℕ) (d : Definition) → file crd ≡ Some c → length c ≤ MOST_FILE_BYTES → LoadsHook c hub d → RefusesFile file crd hub name why → ⊥
never_file file crd hub name why c d tc sc loads (file_unfit is unfit) = fit (file crd) c why tc sc (utf8_of c loads.defines.document loads.defines.reads) unfit
never_file file crd hub name why c d tc sc loads (file_not_loaded k b is taken (inl bad) says) =
    never_refused c loads.view b loads.defines (subst (λ (x : List ℕ). RefusesDefinition x b) (same_text (file crd) c k tc taken) bad)
never_file file crd hub name why c d tc sc loads (file_not_loaded k b is taken (inr none) says) =
    names_hub c hub d b loads (subst (λ (x : List ℕ). HasNoHub x hub b) (same_text (file crd) c k tc taken) none)

-- a line that is served isn't refused
pub not_both : (file : List ℕ → Option (List ℕ)) (source : Source) (name why : List ℕ) → IsServed file source → Refuses file source name why → ⊥
not_both file built_in name why served bad = bad
not_both file (by_rules crd rules) name why served bad = never_files file crd rules name why served.0 served.1 served.6 served.2 served.3 served.4 served.5 served.7 bad
not_both file (by_converter crd hub url) name why served bad = never_file file crd hub name why served.0 served.3.0 served.1 served.2 served.3.1 bad

-- a converter of a line that is served has an address
pub has_address : (file : List ℕ → Option (List ℕ)) (source : Source) → IsServed file source → IsAddressless source → ⊥
has_address file built_in served none = none
has_address file (by_rules crd rules) served none = none
has_address file (by_converter crd hub url) served none = none served.4 served.5

-- where the files tell the texts, a definition that was loaded is served
pub means_served : (file : List ℕ → Option (List ℕ)) (source : Source) (l : Loaded) → IsToldBy file source → Means file source l → IsServed file source
means_served file built_in l told means = tt
means_served file (by_rules crd rules) (with_rules d) told means =
    let one = same_text (file crd) told.0 means.0 told.2 means.2 in
    let two = same_text (file rules) told.1 means.1 told.3 means.3 in (
      told.0,
      told.1,
      told.2,
      told.3,
      subst (λ (x : List ℕ). length x ≤ MOST_FILE_BYTES) one means.2.short,
      subst (λ (x : List ℕ). length x ≤ MOST_FILE_BYTES) two means.3.short,
      d,
      subst (λ (x : List ℕ). LoadsSet x told.1 d) one (subst (λ (x : List ℕ). LoadsSet means.0 x d) two means.4),
    )
means_served file (by_rules crd rules) (with_converter d) told means = absurd means
means_served file (by_converter crd hub url) (with_rules d) told means = absurd means
means_served file (by_converter crd hub url) (with_converter d) told means =
    let one = same_text (file crd) told.0 means.2 told.1 means.3 in
    (told.0, told.1, subst (λ (x : List ℕ). length x ≤ MOST_FILE_BYTES) one means.3.short, (d, subst (λ (x : List ℕ). LoadsHook x hub d) one means.4), means.0, means.1)
