-- The wrong holders by file: a share of holder i is present and differs exactly when there is a file of that holder whose share differs
-- (`wrong-file`). Assumes nothing.
use mathlib.Core.Path.{sym, ◌∙◌, ap}
use mathlib.Core.Logic.{◌↔◌}
use mathlib.Core.List.{List}
use Prim.Native.Nat.{ℕ}
use native.Mathlib.Omega.{arith}
use Rattle.galois.specs.Element.{Element}
use Rattle.codewords.specs.Codeword.{Share, Polynomial, differs}
use Rattle.codewords.specs.Demand.{Wrong}
use Rattle.bundle.specs.Bundle.{params_of, files_of}
use Rattle.archive.specs.Archive.{share_by, shares_by}
use Rattle.archive.specs.Clear.{WrongFile}
use Rattle.archive.proofs.Shares.{values-in, in-values}

pub wrong-file : (bs : List ℕ) (w : ℕ → Element) (q : Polynomial) (i : ℕ) → Wrong (params_of bs) (shares_by bs w) q i ↔ WrongFile bs w q i
wrong-file bs w q i = (file, share)
  where
    file : Wrong (params_of bs) (shares_by bs w) q i → WrongFile bs w q i
    file x =
        let r = values-in (share_by bs w) 0 (files_of bs) x.present in (
          r.0,
          omega (arith, r.2),
          ap (λ (s : Share). s.holder) (sym r.3) ∙ x.under,
          ap (differs (params_of bs).k (params_of bs).d q) (sym r.3) ∙ x.differing,
        )

    share : WrongFile bs w q i → Wrong (params_of bs) (shares_by bs w) q i
    share y =
        record {
          share = share_by bs w y.0;
          present = in-values (share_by bs w) 0 (files_of bs) y.0 (omega arith) (omega (arith, y.1));
          under = y.2;
          differing = y.3;
        }
