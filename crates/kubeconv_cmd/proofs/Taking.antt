-- What is read of files, and what is refused of them.
use Rattle.std.proofs.Common.{◌≡◌, ◌≤◌, ◌⊎◌, ◌∙◌, ℕ, List, length, Option, Some, None, Result, Ok, Err, inl, inr, refl, subst, arith}
use Rattle.std.specs.Prelude.{IfOk, IfErr, IfSome, codes}
use Rattle.kj_value.specs.Txt.{Bytes}
use Rattle.kj_value.specs.declared.txt.Txt.{Txt}
use Rattle.edge_io.specs.Causes.{Rose}
use Rattle.edge_io.specs.Files.{ReadsFile, ShowsFault}
use Rattle.edge_io.specs.declared.files.TheConstants.{MOST_FILE_BYTES}
use Rattle.edge_io.specs.declared.files.FileFault.TheVariants as read_faults
use Rattle.crd_loading.specs.Blame.{Blame, blame}
use Rattle.crd_loading.specs.Load.{RefusesDefinition, RefusesRules}
use Rattle.crd_loading.specs.Told.{RefusesIn, RefusesLoading as RefusesTexts}
use Rattle.crd_loading.specs.declared.loading.LoadFault.{LoadFault}
use Rattle.crd_loading.specs.declared.loading.LoadFault.TheVariants as faults
use Rattle.crd_loading.specs.declared.loading.Which.{Which}
use Rattle.crd_loading.specs.declared.loading.Which.TheVariants.{Crd, Rules}
use Rattle.crd_meaning.specs.Definition.{Definition}
use Rattle.crd_versions.specs.Set.{definition_of}
use Rattle.crd_versions.specs.declared.set.VersionSet.{VersionSet}
use Rattle.hook_versions.specs.Loads.{HasNoHub, LoadsHook, RefusesHook}
use Rattle.command_lines.specs.Lines.{Source, by_converter, by_rules}
use Rattle.kubeconv_cmd.specs.Sources.{LoadsSet, Means, with_rules, IsTaken, IsUnfit, too_long, no_text, Refuses, definition_unfit, rules_unfit, not_loaded, file_unfit, file_not_loaded, IsAddressless, blame_text, file_of}
use Rattle.kubeconv_cmd.specs.inner.Ends.{Stops, StopsBy}
use Rattle.kubeconv_cmd.specs.declared.stop.Stop.{Stop}
use Rattle.kubeconv_cmd.specs.declared.stop.Stop.TheVariants as stops

-- ---- texts without a fault

-- two texts are others
pub both : (P : List ℕ → List ℕ → Type 0) (a b k r : List ℕ) → a ≡ k → b ≡ r → P a b → P k r
both P a b k r ea eb p = subst (λ (x : List ℕ). P x r) ea (subst (λ (y : List ℕ). P a y) eb p)

-- texts of which nothing is refused have no fault
pub faultless : (a b k r : List ℕ) (fault : LoadFault) (which : Which) (path word : Txt) → a ≡ k → b ≡ r
    → ((x : Blame) → RefusesDefinition k x → ⊥) → ((x : Blame) → RefusesRules k r x → ⊥)
    → RefusesTexts a b fault → fault ≡ faults.Refused which path word → ⊥
faultless a b k r (faults.Refused Crd p w) which path word ea eb d s bad is =
    d (blame p.bytes w.bytes) (subst (λ (x : List ℕ). RefusesDefinition x (blame p.bytes w.bytes)) ea bad)
faultless a b k r (faults.Refused Rules p w) which path word ea eb d s bad is =
    s (blame p.bytes w.bytes) (both (λ x y. RefusesRules x y (blame p.bytes w.bytes)) a b k r ea eb bad)
faultless a b k r faults.NoMemory which path word ea eb d s bad is = cc

-- no rules are refused of a definition with a converter
pub no_rules : (crd hub : List ℕ) (fault : LoadFault) (which : Which) (path word : Txt) → RefusesHook crd hub fault → fault ≡ faults.Refused which path word → which ≡ Rules → ⊥
no_rules crd hub (faults.Refused Crd p w) which path word bad is rules = cc
no_rules crd hub (faults.Refused Rules p w) which path word bad is rules = bad
no_rules crd hub faults.NoMemory which path word bad is rules = cc

-- ---- one file

pub taken : (told : Option (List ℕ)) (text : Bytes) → length text.bytes ≤ MOST_FILE_BYTES → IfSome told (λ bytes. ReadsFile bytes (Ok text)) → IsTaken told text.bytes
taken None text short reads = record { short = short; is = tt }
taken (Some bytes) text short reads = record { short = short; is = (reads.2, reads.1) }

pub is_too_long : (told : Option (List ℕ)) → IfSome told (λ bytes. ShowsFault bytes read_faults.TooLong) → IsUnfit told (codes "TooLong")
is_too_long told shows = too_long refl shows

pub is_no_text : (told : Option (List ℕ)) → IfSome told (λ bytes. ShowsFault bytes read_faults.NotText) → IsUnfit told (codes "NotText")
is_no_text told shows = no_text refl shows

-- ---- why there is no definition

-- reasons that follow from others
pub stops_as : (f g : Type 0) (P Q : List ℕ → List ℕ → Type 0) (a b : Type 0) (stop : Stop) → (f → g) → ((name why : List ℕ) → P name why → Q name why) → (a → b)
    → StopsBy f P a stop → StopsBy g Q b stop
stops_as f g P Q a b stops.ReadFailed fg pq ab h = fg h
stops_as f g P Q a b (stops.Refused file why) fg pq ab h = pq _ _ h
stops_as f g P Q a b stops.BadAddress fg pq ab h = ab h
stops_as f g P Q a b stops.NoMemory fg pq ab h = tt

pub err_stops_as : {X : Type 0} (f g : Type 0) (P Q : List ℕ → List ℕ → Type 0) (a b : Type 0) (came : Result X Stop) → (f → g) → ((name why : List ℕ) → P name why → Q name why) → (a → b)
    → IfErr came (StopsBy f P a) → IfErr came (StopsBy g Q b)
err_stops_as f g P Q a b (Ok x) fg pq ab h = tt
err_stops_as f g P Q a b (Err stop) fg pq ab h = stops_as f g P Q a b stop fg pq ab h

-- a count that rose behind another moment, or before one, rose
pub rose_since : (before mid now : ℕ) → before ≤ mid → Rose mid now → Rose before now
rose_since before mid now later rose = omega (arith, later, rose)

pub rose_until : (before mid now : ℕ) → mid ≤ now → Rose before mid → Rose before now
rose_until before mid now later rose = omega (arith, later, rose)

-- the definition's file isn't taken
pub crd_unfit : (fails : Type 0) (file : List ℕ → Option (List ℕ)) (crd rules : List ℕ) (stop : Stop) → StopsBy fails (λ name why. (name ≡ crd) × IsUnfit (file crd) why) ⊥ stop
    → Stops fails file (by_rules crd rules) ⊥ stop
crd_unfit fails file crd rules stop h =
    stops_as fails fails (λ (name why : List ℕ). (name ≡ crd) × IsUnfit (file crd) why) (Refuses file (by_rules crd rules)) ⊥ (IsAddressless (by_rules crd rules) × ⊥) stop
    (λ x. x) (λ name why p. definition_unfit p.0 p.1) (λ x. absurd x) h

-- that of the rules isn't
pub rules_unfit_so : (f fails : Type 0) (file : List ℕ → Option (List ℕ)) (later : Option (List ℕ)) (crd rules c : List ℕ) (stop : Stop) → (f → fails) → later ≡ file rules → IsTaken (file crd) c
    → StopsBy f (λ name why. (name ≡ rules) × IsUnfit later why) ⊥ stop → Stops fails file (by_rules crd rules) ⊥ stop
rules_unfit_so f fails file later crd rules c stop since same text h =
    stops_as f fails (λ (name why : List ℕ). (name ≡ rules) × IsUnfit later why) (Refuses file (by_rules crd rules)) ⊥ (IsAddressless (by_rules crd rules) × ⊥) stop
    since (λ name why p. rules_unfit c p.0 text (subst (λ (o : Option (List ℕ)). IsUnfit o why) same p.1)) (λ x. absurd x) h

-- both are, and don't load
pub unloaded : {X : Type 0} (fails : Type 0) (file : List ℕ → Option (List ℕ)) (crd rules c r k s : List ℕ) (came : Result X Stop) → k ≡ c → s ≡ r → IsTaken (file crd) c → IsTaken (file rules) r
    → IfErr came (StopsBy ⊥ (λ name why. (which : Which) × (b : Blame) × (name ≡ file_of which crd rules) × RefusesIn k s which b × (why ≡ blame_text b.path b.why)) ⊥)
    → IfErr came (Stops fails file (by_rules crd rules) ⊥)
unloaded fails file crd rules c r k s came one two tc tr h =
    err_stops_as ⊥ fails (λ (name why : List ℕ). (which : Which) × (b : Blame) × (name ≡ file_of which crd rules) × RefusesIn k s which b × (why ≡ blame_text b.path b.why)) (Refuses file (by_rules crd rules))
    ⊥ (IsAddressless (by_rules crd rules) × ⊥) came
    (λ x. absurd x) (λ name why p. not_loaded c r p.0 p.1 p.2 tc tr (both (λ (x y : List ℕ). RefusesIn x y p.0 p.1) k s c r one two p.3) p.4) (λ x. absurd x) h

-- both are, and load
pub loaded_so : (file : List ℕ → Option (List ℕ)) (crd rules c r k s : List ℕ) (came : Result VersionSet Stop) → k ≡ c → s ≡ r → IsTaken (file crd) c → IsTaken (file rules) r
    → IfOk came (λ v. LoadsSet k s (definition_of v)) → IfOk came (λ v. Means file (by_rules crd rules) (with_rules (definition_of v)))
loaded_so file crd rules c r k s (Ok v) one two tc tr h = (c, r, tc, tr, both (λ (x y : List ℕ). LoadsSet x y (definition_of v)) k s c r one two h)
loaded_so file crd rules c r k s (Err stop) one two tc tr h = tt

-- ---- a definition with a converter

pub hook_so : {X Y : Type 0} (set : X → Definition) (told : Option (List ℕ)) (hub c k : List ℕ) (came : Result X Y) → k ≡ c → IsTaken told c → IfOk came (λ s. LoadsHook k hub (set s))
    → IfOk came (λ s. (t : List ℕ) × IsTaken told t × LoadsHook t hub (set s))
hook_so set told hub c k (Ok s) same text h = (c, text, subst (λ (x : List ℕ). LoadsHook x hub (set s)) same h)
hook_so set told hub c k (Err stop) same text h = tt

pub converted_unfit : (fails : Type 0) (file : List ℕ → Option (List ℕ)) (crd hub url : List ℕ) (stop : Stop) → StopsBy fails (λ name why. (name ≡ crd) × IsUnfit (file crd) why) ⊥ stop
    → Stops fails file (by_converter crd hub url) ⊥ stop
converted_unfit fails file crd hub url stop h =
    stops_as fails fails (λ (name why : List ℕ). (name ≡ crd) × IsUnfit (file crd) why) (Refuses file (by_converter crd hub url)) ⊥ (IsAddressless (by_converter crd hub url) × ⊥) stop
    (λ x. x) (λ name why p. file_unfit p.0 p.1) (λ x. absurd x) h

pub converted_unloaded : {X : Type 0} (fails : Type 0) (file : List ℕ → Option (List ℕ)) (crd hub url c k : List ℕ) (came : Result X Stop) → k ≡ c → IsTaken (file crd) c
    → IfErr came (StopsBy ⊥ (λ name why. (b : Blame) × (name ≡ crd) × (RefusesDefinition k b ⊎ HasNoHub k hub b) × (why ≡ blame_text b.path b.why)) ⊥)
    → IfErr came (Stops fails file (by_converter crd hub url) ⊥)
converted_unloaded fails file crd hub url c k came same text h =
    err_stops_as ⊥ fails (λ (name why : List ℕ). (b : Blame) × (name ≡ crd) × (RefusesDefinition k b ⊎ HasNoHub k hub b) × (why ≡ blame_text b.path b.why)) (Refuses file (by_converter crd hub url))
    ⊥ (IsAddressless (by_converter crd hub url) × ⊥) came
    (λ x. absurd x) (λ name why p. file_not_loaded c p.0 p.1 text (subst (λ (x : List ℕ). RefusesDefinition x p.0 ⊎ HasNoHub x hub p.0) same p.2) p.3) (λ x. absurd x) h

-- where no address was read nothing was touched
pub addressed : (fails : Type 0) (file : List ℕ → Option (List ℕ)) (source : Source) (u : Type 0) (stop : Stop) → Stops fails file source ⊥ stop → Stops fails file source u stop
addressed fails file source u stop h =
    stops_as fails fails (Refuses file source) (Refuses file source) (IsAddressless source × ⊥) (IsAddressless source × u) stop (λ x. x) (λ name why p. p) (λ x. absurd x.1) h
