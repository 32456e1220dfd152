-- The parameters of an archive: paper 01's book. Assumes nothing.
use Rattle.std.specs.Prelude.{◌^◌, Bool, ◌&&◌, nat_le, nat_lt}
use Rattle.words.specs.declared.Params.{Params}

-- "k, the bits in a word, 1 to 64; d, the words in an element, 2 to 6; n, the holders, 1 to 2^d − 1; t, the degree, 0 to n − 1"
unfoldable pub params_ok : Params → Bool
params_ok p =
    nat_le 1 p.k && (nat_le p.k 64 && (nat_le 2 p.d && (nat_le p.d 6 && (nat_le 1 p.n && (nat_lt p.n (2 ^ p.d) && nat_lt p.t p.n)))))
