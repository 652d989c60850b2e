mod machines
