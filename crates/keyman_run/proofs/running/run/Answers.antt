use Rattle.std.proofs.Common.{◌≡◌, Some, None, refl, rules}
use Rattle.keyman_words.specs.Command.{Request, request_of}
use Rattle.keyman_words.specs.Command.Request.{Compile, Decompile, Host, Layout, Load, Play, Shadow, Test, Trace, Verify}
use Rattle.keyman_run.proofs.LoadLaws.{load_runs}
use Rattle.keyman_run.proofs.MeaningLaws.{compile_means, test_means}
use Rattle.keyman_run.proofs.WordsLaws.{runs_asked, runs_nothing}
use Rattle.keyman_run.proofs.running.run.Goals as goal

pub returns-in-Some-Compile : goal.returns-in-Some-Compile
returns-in-Some-Compile g c =
    let request : Request = Compile c.in-Some-Compile.source c.in-Some-Compile.file in
    let is : Some request ≡ request_of c.args.words.now = search rules in
    runs_asked c.args.words.now request g.F.Folder _ _ g.S.Sink _ _ c.compile.result is c.compile.ensures
    (λ told written. compile_means c.in-Some-Compile.source c.in-Some-Compile.file g.F.Folder _ _ g.S.Sink _ _ c.compile.result c.compile.ensures told written)

pub returns-in-Some-Test : goal.returns-in-Some-Test
returns-in-Some-Test g c =
    let request : Request = Test c.in-Some-Test.source c.in-Some-Test.file c.in-Some-Test.keys in
    let is : Some request ≡ request_of c.args.words.now = search rules in
    runs_asked c.args.words.now request g.F.Folder _ _ g.S.Sink _ _ c.test.result is c.test.ensures
    (λ told written. test_means c.in-Some-Test.source c.in-Some-Test.file c.in-Some-Test.keys g.F.Folder _ _ g.S.Sink _ _ c.test.result c.test.ensures told written)

pub returns-in-Some-Verify : goal.returns-in-Some-Verify
returns-in-Some-Verify g c =
    let request : Request = Verify c.in-Some-Verify.file in
    let is : Some request ≡ request_of c.args.words.now = search rules in
    runs_asked c.args.words.now request g.F.Folder _ _ g.S.Sink _ _ c.verify_file.result is c.verify_file.ensures (λ told. tt)

pub returns-in-Some-Decompile : goal.returns-in-Some-Decompile
returns-in-Some-Decompile g c =
    let request : Request = Decompile c.in-Some-Decompile.file c.in-Some-Decompile.source in
    let is : Some request ≡ request_of c.args.words.now = search rules in
    runs_asked c.args.words.now request g.F.Folder _ _ g.S.Sink _ _ c.decompile.result is c.decompile.ensures.does c.decompile.ensures.means

pub returns-in-Some-Play : goal.returns-in-Some-Play
returns-in-Some-Play g c =
    let request : Request = Play c.in-Some-Play.file c.in-Some-Play.keys in
    let is : Some request ≡ request_of c.args.words.now = search rules in
    runs_asked c.args.words.now request g.F.Folder _ _ g.S.Sink _ _ c.play_on_file.result is c.play_on_file.ensures (λ told. tt)

pub returns-in-Some-Layout : goal.returns-in-Some-Layout
returns-in-Some-Layout g c =
    let request : Request = Layout c.in-Some-Layout.source c.in-Some-Layout.layout in
    let is : Some request ≡ request_of c.args.words.now = search rules in
    runs_asked c.args.words.now request g.F.Folder _ _ g.S.Sink _ _ c.check_layout.result is c.check_layout.ensures (λ told. tt)

pub returns-in-Some-Load : goal.returns-in-Some-Load
returns-in-Some-Load g c =
    let request : Request = Load c.in-Some-Load.number in
    let is : Some request ≡ request_of c.args.words.now = search rules in
    runs_asked c.args.words.now request g.F.Folder c.args.folder.now _ g.S.Sink _ _ c.load.result is
    (load_runs c.in-Some-Load.number (Some request) g.F.Folder c.args.folder.now g.S.Sink _ _ c.load.result refl c.load.ensures) (λ told. tt)

pub returns-in-Some-Trace : goal.returns-in-Some-Trace
returns-in-Some-Trace g c =
    let request : Request = Trace c.in-Some-Trace.source c.in-Some-Trace.keys in
    let is : Some request ≡ request_of c.args.words.now = search rules in
    runs_asked c.args.words.now request g.F.Folder _ _ g.S.Sink _ _ c.trace_rules.result is c.trace_rules.ensures (λ told. tt)

pub returns-in-Some-Shadow : goal.returns-in-Some-Shadow
returns-in-Some-Shadow g c =
    let request : Request = Shadow c.in-Some-Shadow.source in
    let is : Some request ≡ request_of c.args.words.now = search rules in
    runs_asked c.args.words.now request g.F.Folder _ _ g.S.Sink _ _ c.shadow_rules.result is c.shadow_rules.ensures (λ told. tt)

pub returns-in-Some-Host : goal.returns-in-Some-Host
returns-in-Some-Host g c =
    let request : Request = Host c.in-Some-Host.file c.in-Some-Host.keys in
    let is : Some request ≡ request_of c.args.words.now = search rules in
    runs_asked c.args.words.now request g.F.Folder _ _ g.S.Sink _ _ c.host_on_file.result is c.host_on_file.ensures (λ told. tt)

pub returns-in-None : goal.returns-in-None
returns-in-None g c =
    let is : None ≡ request_of c.args.words.now = search rules in
    runs_nothing c.args.words.now g.F.Folder c.args.folder.now g.S.Sink c.args.out.now is
