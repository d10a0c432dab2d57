-- The two documents are sound, and no deeper than is read.
use Rattle.std.proofs.Common.{◌≤◌, ℕ, List, Bool, true, false, refl, lit≤}
use Rattle.kj_value.specs.Json.{depth}
use Rattle.kj_value.specs.Sound.{IsSoundJson}
use Rattle.kj_value.specs.declared.reading.TheConstants.{MAX_JSON_LEVELS}
use Rattle.built_in.specs.Texts.{hub_version, stored_version, hub_property, stored_property, text_schema, object_schema, version, names, versions, spec, definition_document, same_rule, spokes, rules_document}

text_sound : IsSoundJson text_schema
text_sound = (tt, tt, tt)

property_sound : (p : List ℕ) → IsSoundJson (object_schema p)
property_sound p = (refl, (tt, text_sound, tt), (tt, tt, tt))

version_sound : (n p : List ℕ) (stored : Bool) → IsSoundJson (version n p stored)
version_sound n p stored =
    (refl, tt, (refl, (tt, property_sound p, tt), (refl, tt, (tt, tt, tt))))

names_sound : IsSoundJson names
names_sound = (refl, tt, (tt, tt, tt))

versions_sound : IsSoundJson versions
versions_sound = (version_sound hub_version hub_property false, (version_sound stored_version stored_property true, tt))

spec_sound : IsSoundJson spec
spec_sound = (refl, tt, (refl, names_sound, (refl, tt, (tt, versions_sound, tt))))

pub definition_sound : IsSoundJson definition_document
unfolding definition_document
definition_sound = (refl, tt, (refl, tt, (refl, (tt, tt, tt), (tt, spec_sound, tt))))

pub definition_shallow : depth definition_document ≤ MAX_JSON_LEVELS
unfolding definition_document
definition_shallow = lit≤ tt

rule_sound : IsSoundJson same_rule
rule_sound = (tt, (tt, (tt, tt)), tt)

spokes_sound : IsSoundJson spokes
spokes_sound = (tt, (rule_sound, tt), tt)

pub rules_sound : IsSoundJson rules_document
unfolding rules_document
rules_sound = (refl, tt, (tt, spokes_sound, tt))

pub rules_shallow : depth rules_document ≤ MAX_JSON_LEVELS
unfolding rules_document
rules_shallow = lit≤ tt
