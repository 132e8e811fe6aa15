use Rattle.std.{proofs.Common.subst, proofs.lemmas.Result.{IfOk-weaker, IfErr-weaker}}
use Rattle.ct_serve.{specs.TableFiles.{IsTableFile, WhyNoTable}, proofs.Exports.{file_of_all, none_of_all}}
use Rattle.ct_serve.proofs.exporting.exported_named.Goals as goal

pub returns-clause-table : goal.returns-clause-table
returns-clause-table g c =
    let t = c.in_ok-transcript in
    let last = c.execute_and_export-table.new.self.pass in
    let name = c.as_str-text.result.now in
    IfOk-weaker c.execute_and_export-table.result _ _
    (λ f a. subst (λ n. IsTableFile t.transcript n f.1.items) c.as_str-text.ensures
    (file_of_all g.N.Site.log.cap t.transcript t.ensures.lawful c.in_ok-passes.passes.items c.in-Some-finish.pass last c.in_ok-passes.ensures.passes c.in-Some-finish.ensures.pass t.ensures.whole t.ensures.seen
    name f.1.items f.0 a)) c.execute_and_export-table.ensures.file

pub returns-clause-none : goal.returns-clause-none
returns-clause-none g c =
    let t = c.in_ok-transcript in
    let last = c.execute_and_export-table.new.self.pass in
    let name = c.as_str-text.result.now in
    IfErr-weaker c.execute_and_export-table.result _ _
    (λ e a. subst (λ n. WhyNoTable t.transcript n e) c.as_str-text.ensures
    (none_of_all g.N.Site.log.cap t.transcript t.ensures.lawful c.in_ok-passes.passes.items c.in-Some-finish.pass last c.in_ok-passes.ensures.passes c.in-Some-finish.ensures.pass t.ensures.whole t.ensures.seen
    name e a)) c.execute_and_export-table.ensures.none
