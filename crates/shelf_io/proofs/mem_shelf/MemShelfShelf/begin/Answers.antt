use Rattle.std.proofs.Common.{◌∙◌, sym, ap, inr, ℕ, List, Option}
use Rattle.shelf_io.proofs.mem_shelf.MemShelfShelf.begin.Goals as goal

-- the files are as before
pub returns-in-Err-clause-failed : goal.returns-in-Err-clause-failed
returns-in-Err-clause-failed c = λ bytes at.
    let same = ap (λ (files : List ℕ → Option (List ℕ)). files c.args.name.now) c.in-Err.ensures.refused in
    inr (sym same ∙ at)
