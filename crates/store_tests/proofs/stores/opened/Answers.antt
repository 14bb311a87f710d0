use Rattle.std.proofs.Common.{[], ◌∷◌}
use Rattle.store_disk.specs.History.{MayLeave, content}
use Rattle.store_tests.proofs.Empty.{empty-if-opened}
use Rattle.store_tests.proofs.stores.opened.Goals as goal

pub returns : goal.returns
returns c =
    let disk = c.args.disk in
    empty-if-opened (λ d. content d.first d.past) (λ d. MayLeave d.first d.past) (1 ∷ []) (content disk.first disk.past) c.open.result c.ok.result c.requires c.ok.ensures.value c.open.ensures.opened
