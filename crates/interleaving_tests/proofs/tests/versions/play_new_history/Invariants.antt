use Rattle.interleaving_tests.proofs.tests.versions.play_new_history.Given as goal

-- the name of the history that was just made, and its limits
abbrev pub ghosts-play_over_versions : goal.ghosts-play_over_versions
ghosts-play_over_versions g a = record { book = a.history; limits = record { clients = 2; comms = 16; history = 2; outbox = 2 } }
