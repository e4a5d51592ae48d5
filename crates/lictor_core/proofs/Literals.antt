-- What a float that is written out is: an `unfolding` that names `literal` opens its bits.
use lib.Ieee.{of_bits}

unfoldable pub literal : Unit {0}
unfolding of_bits
literal = tt
