use Rattle.std.proofs.Common.{List, ◌+◌, ◌++◌, map, drop, sym, ap, ◌∙◌}
use Rattle.std.proofs.lemmas.List.{append-nil, drop_all}
use Rattle.kj_value.specs.Text.{quoted}
use Rattle.kj_value.specs.Texts.{bytes_of}
use Rattle.kj_value.specs.declared.txt.Txt.{Txt}
use Rattle.crd_reading.specs.Seen.{version_of}
use Rattle.crd_reading.specs.View.{VersionView}
use Rattle.crd_reading.specs.declared.definition.Version.{Version}
use Rattle.crd_settings.proofs.Named.{quoted_here}
use Rattle.crd_settings.proofs.pieces.names.Goals as goal

pub loop-i-preserved : goal.loop-i-preserved
loop-i-preserved c =
    let l = c.loop-i in
    ap (λ (ts : List Txt). map bytes_of ts ++ map (λ (w : VersionView). quoted w.name) (map version_of (drop (l.i + 1) c.args.versions.now))) c.in_ok-push.ensures.items
    ∙ quoted_here c.args.versions.now l.i c.index-versions-i.result l.names.items c.in_ok-name.name c.loop-i-test.true c.index-versions-i.is (c.in_ok-name.ensures ∙ ap quoted (c.as_str.ensures ∙ ap (λ (v : Version). (version_of v).name) (sym c.index-versions-i.is))) ∙ l.invariant

pub returns : goal.returns
returns c =
    let l = c.loop-i in
    sym (append-nil (map bytes_of l.names.items))
    ∙ ap (λ (t : List Version). map bytes_of l.names.items ++ map (λ (w : VersionView). quoted w.name) (map version_of t)) (sym (drop_all l.i c.args.versions.now c.loop-i-test.false)) ∙ l.invariant
