use Rattle.text_tests.proofs.places.sorted.Given as goal

abbrev pub ghosts-sorted_from : goal.ghosts-sorted_from
ghosts-sorted_from a = record { name = a.blank.name; parts = a.blank.parts }
