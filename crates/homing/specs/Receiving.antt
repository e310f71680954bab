-- A link record that says nothing, where a call refuses.
use Rattle.joining.specs.Joining.{plus_zero}
use Rattle.joining.specs.declared.linking.Link.{Link}

abbrev pub no_link : Link
no_link = record { least = plus_zero; greatest = plus_zero; punctured = 0 }
