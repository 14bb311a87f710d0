use Rattle.process_text.proofs.Common.{◌≡◌, file_up_to, Ok, rules}
use Rattle.std.proofs.{Common.IfOk, lemmas.Result.IfOk-weaker}
use Rattle.file_model.specs.declared.files.File.{File}
use Rattle.file_facts.specs.Facts.{IsWorkable, MigratesAll}
use Rattle.file_facts.proofs.{Migrates.file-moves, Workable.file_up_to-workable}
use Rattle.process_text.proofs.workable.read_workable_up_to.Goals as goal

pub returns-clause-workable : goal.returns-clause-workable
returns-clause-workable c =
    let found : IfOk c.read_file_up_to.result (λ read. file_up_to c.args.newest c.args.bytes.now ≡ Ok read) = search rules in
    IfOk-weaker c.read_file_up_to.result (λ (read : File). file_up_to c.args.newest c.args.bytes.now ≡ Ok read) IsWorkable (λ f is. file_up_to-workable c.args.newest c.args.bytes.now f is) found

pub returns-clause-all : goal.returns-clause-all
returns-clause-all c =
    let found : IfOk c.read_file_up_to.result (λ read. file_up_to c.args.newest c.args.bytes.now ≡ Ok read) = search rules in
    IfOk-weaker c.read_file_up_to.result (λ (read : File). file_up_to c.args.newest c.args.bytes.now ≡ Ok read) MigratesAll (λ f is. file-moves c.args.newest c.args.bytes.now f is) found
