use Rattle.shape.proofs.data.DataMap.insert.Given as goal

abbrev pub ghosts-insert_uncounted : goal.ghosts-insert_uncounted
ghosts-insert_uncounted a = record { name = a.blank.name; parts = a.blank.parts }
