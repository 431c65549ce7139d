use Rattle.std.{proofs.Common.{refl, sym, subst}, specs.Prelude.{IsSomeAnd, ◌++◌}}
use Rattle.hc_folder.specs.Closing.{StandsAs}
use Rattle.hc_folder.proofs.Closing.{closes}
use Rattle.hc_folder.proofs.recording.Recorder.close.Goals as goal

pub returns-clause-folder : goal.returns-clause-folder
returns-clause-folder g c = refl

pub returns-clause-standing : goal.returns-clause-standing
returns-clause-standing g c = c.standing-standing.ensures

pub returns-clause-stands : goal.returns-clause-stands
returns-clause-stands g c = λ image text n small told.
    let r = c.args.self in
    subst (λ s. IsSomeAnd (g.F.Folder.files r.folder) (λ files. ∥ StandsAs image n text files s ∥₁)) (sym c.standing-standing.ensures)
    (closes r.owed r.number r.sum r.at r.block.items r.next r.waiting.items (g.F.Folder.files r.folder) r.written r.small image text n small told)

pub invariant_of-self : goal.invariant_of-self
invariant_of-self g c = let r = c.args.self in record { small = r.small; written = r.written }
