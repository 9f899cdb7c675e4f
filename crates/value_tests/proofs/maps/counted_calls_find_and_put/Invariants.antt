use Rattle.value_tests.proofs.maps.counted_calls_find_and_put.Given as goal

abbrev pub ghosts-is_found_and_put : goal.ghosts-is_found_and_put
ghosts-is_found_and_put g a = record { name = a.blank.name; parts = a.blank.parts }
