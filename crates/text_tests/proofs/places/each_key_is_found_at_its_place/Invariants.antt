use Rattle.text_tests.proofs.places.each_key_is_found_at_its_place.Given as goal

abbrev pub ghosts-place_from : goal.ghosts-place_from
ghosts-place_from g a = record { name = a.blank.name; parts = a.blank.parts }
